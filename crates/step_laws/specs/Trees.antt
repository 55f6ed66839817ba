-- A proper residual is a tree of known nodes, as the step asks.
--     valid_proper    of a residual
-- Assumes nothing.
use Rattle.std.specs.Prelude.{ℕ, zero, suc, ◌<◌, ◌≡◌}
use Rattle.std.proofs.Common.{arith, ap, sym, ◌∙◌}
use Rattle.std.proofs.Math.Option.{some}
use Rattle.table.specs.Table.{Table, Term, stop, fail, prefix, choice, par, call, term_count, term_at}
use Rattle.table.specs.Memory.{Memory, digit}
use Rattle.table.specs.Node.{term_of, kind_of}
use Rattle.table.proofs.Node.Numbers.{term_at_lem}
use Rattle.table.specs.Rules.{Rules}
use Rattle.residuals.specs.Residual.{Residual, leaf, pair}
use Rattle.table.proofs.Stands.Laws.{number_at, number_below}
use Rattle.monitor_spec.specs.Meaning.{IsLeaf, IsPar, Sound}
use Rattle.monitor_spec.proofs.Regular.Laws.{regular}
use Rattle.monitor_spec.specs.Proper.{Remembers, MemoriesFit, Proper}
use Rattle.monitor_spec.proofs.Valid.Laws.{some_same}
use Rattle.monitor_spec.proofs.Valid.Residuals.{digits_fit}
use Rattle.tree_walk.specs.Forest.{ValidNode, Valid}

-- ---- memory

digits_below : (a c : ℕ) (m : Memory) → Remembers a c m → (i : ℕ) → digit m i < a
unfolding digit
digits_below a c m f zero = (f 0 (omega arith)).0
digits_below a c m f (suc zero) = (f 1 (omega arith)).0
digits_below a c m f (suc (suc zero)) = (f 2 (omega arith)).0
digits_below a c m f (suc (suc (suc i))) = (f 3 (omega arith)).0

-- ---- kinds

leaf_kind : (x : Term) → IsLeaf x → kind_of x ≡ 4 → ⊥
unfolding kind_of
leaf_kind stop i e = omega arith
leaf_kind fail i e = i
leaf_kind (prefix r p) i e = omega arith
leaf_kind (choice p q) i e = i
leaf_kind (par r p q) i e = i
leaf_kind (call d) i e = i

par_kind : (x : Term) → IsPar x → kind_of x ≡ 4
unfolding kind_of
par_kind stop i = absurd i
par_kind fail i = absurd i
par_kind (prefix r p) i = absurd i
par_kind (choice p q) i = absurd i
par_kind (par r p q) i = omega arith
par_kind (call d) i = absurd i

module _ (t : Table) (rules : Rules t) where
  term_known : (n : ℕ) (x : Term) → term_at t n ≡ some x → n < term_count t
  term_known n x e = number_below t (number_at t n x e).stands

  term_is : (n : ℕ) (x : Term) → term_at t n ≡ some x → term_of t n ≡ x
  term_is n x e = some_same (term_of t n) x (sym (term_at_lem t n (term_known n x e)) ∙ e)

  node_valid : (n c : ℕ) (m : Memory) (x : Term) → term_at t n ≡ some x → Remembers t.alphabet c m
      → ValidNode t n m
  node_valid n c m x e f =
      (digits_fit t (regular t rules) c m f, term_known n x e, digits_below t.alphabet c m f)

  valid_fits : (r : Residual) → Sound t r → MemoriesFit t r → Valid t r
  valid_fits (leaf n m) (x, e, i) f = (node_valid n _ m x e f, λ k. leaf_kind x i (ap kind_of (sym (term_is n x e)) ∙ k))
  valid_fits (pair n m l r) (x, e, i, a, b) (f, g, h) =
      (node_valid n _ m x e f, ap kind_of (term_is n x e) ∙ par_kind x i, valid_fits l a g, valid_fits r b h)

  pub valid_proper : (r : Residual) → Proper t r → Valid t r
  valid_proper r (s, (f, k)) = valid_fits r s f
