-- How many residuals stand after an event, and whether there are any.
--     leaf_not_kind, leaf_not_held, leaf_held, pair_both, pair_either     how many, of a leaf and of a pair
--     any_product, no_product, any_capped, none_of                        whether a number is above 0
--     leaf_kept_lem, kept_length                                          no more without a leaf's repeats
-- Assumes nothing.
use Rattle.std.specs.Prelude.{ℕ, zero, suc, ◌+◌, ◌*◌, ◌<◌, ◌≤◌, ◌≡◌, refl, Bool, true, false, [], ◌∷◌, length, eqb, ltb}
use Rattle.std.proofs.Common.{arith, mul-zero, zero-mul, suc-mul, mul-le-mul, ap, sym, ◌∙◌, length-append, lt-ltb, ltb-false}
use Rattle.std.proofs.lemmas.List.{length-map}
use Rattle.table.specs.Table.{Table}
use Rattle.table.specs.Branches.{branches}
use Rattle.table.specs.Branches.Capped.{capped}
use Rattle.table.specs.Node.{term_of, kind_of, ref_of}
use Rattle.table.specs.Memory.{Memory, remember}
use Rattle.table.specs.Member.{member}
use Rattle.node_word.specs.Word.{pack, Digits}
use Rattle.residuals.specs.Residual.{Residual, leaf, pair, pairs, after}
use Rattle.resolving.specs.Words.{kind_at, holds_at}
use Rattle.resolving.specs.Lawful.{Lawful}
use Rattle.residuals.proofs.Residual.Counts.{length_pairs}
use Rattle.resolving.specs.ResidualWords.Resolved.{length_resolved}
use Rattle.resolving.specs.ResidualWords.After.{after_held, after_not_held, after_not_kind, after_both, after_either}
use Rattle.tree_walk.specs.Walk.{leaf_kept, leaf_results}
use Rattle.tree_walk.specs.Walk.Leaves.{results_yes, kept_not_kind, kept_not_held, leaf_length}
use Rattle.tree_walk.specs.Forest.{Valid, after_kept}
use Rattle.tree_walk.specs.Forest.Results.{kept_both, kept_either}
use Rattle.tree_ways.specs.Members.{node_results}

-- ---- how many residuals stand after an event

module _ (t : Table) (e n : ℕ) (m : Memory) where
  pub leaf_not_kind : (kind_of (term_of t n) ≡ 2 → ⊥) → length (after t e (leaf n m)) ≡ 0
  leaf_not_kind q = ap length (after_not_kind t e n m q)

  pub leaf_not_held : kind_of (term_of t n) ≡ 2 → member t (ref_of (term_of t n)) m e ≡ false
      → length (after t e (leaf n m)) ≡ 0
  leaf_not_held q h = ap length (after_not_held t e n m q h)

  pub leaf_held : Lawful t → kind_of (term_of t n) ≡ 2 → member t (ref_of (term_of t n)) m e ≡ true
      → length (after t e (leaf n m)) ≡ branches t (term_of t (n + 1))
  leaf_held law q h = ap length (after_held t e n m q h) ∙ length_resolved t law (n + 1) (remember e m)

  pub pair_both : (l r : Residual) → kind_of (term_of t n) ≡ 4 → member t (ref_of (term_of t n)) m e ≡ true
      → length (after t e (pair n m l r)) ≡ length (after t e l) * length (after t e r)
  pair_both l r k h = ap length (after_both t e n m l r k h) ∙ length_pairs n m (after t e l) (after t e r)

  pub pair_either : (l r : Residual) → kind_of (term_of t n) ≡ 4 → member t (ref_of (term_of t n)) m e ≡ false
      → length (after t e (pair n m l r)) ≡ length (after t e l) + length (after t e r)
  pair_either l r k h =
      ap length (after_either t e n m l r k h)
      ∙ (length-append (pairs n m (after t e l) (r ∷ [])) (pairs n m (l ∷ []) (after t e r))
      ∙ omega (arith, length_pairs n m (after t e l) (r ∷ []), length_pairs n m (l ∷ []) (after t e r)))

-- ---- whether there are any

pub any_product : (x y : ℕ) → 0 < x → ltb 0 (x * y) ≡ ltb 0 y
any_product zero y h = absurd (omega arith)
any_product (suc x) zero h = rw (mul-zero (suc x))
any_product (suc x) (suc y) h =
    lt-ltb 0 (suc x * suc y) (omega (arith, suc-mul x (suc y))) ∙ sym (lt-ltb 0 (suc y) (omega arith))

pub no_product : (x y : ℕ) → x ≡ 0 → ltb 0 (x * y) ≡ false
no_product x y e = rw (e, zero-mul y)

pub any_capped : (x c : ℕ) → c ≡ capped x → ltb 0 c ≡ ltb 0 x
unfolding capped
any_capped zero c e = let z : c ≡ 0 = omega arith in rw z
any_capped (suc x) c e = lt-ltb 0 c (omega arith) ∙ sym (lt-ltb 0 (suc x) (omega arith))

pub none_of : (x : ℕ) → ltb 0 x ≡ false → x ≡ 0
none_of x e = omega (arith, ltb-false 0 x e)

-- ---- without a leaf's repeats there are no more

kept_by : (t : Table) (e w : ℕ) (a b : Bool) → eqb (kind_at t w) 2 ≡ a → holds_at t e w ≡ b
    → length (leaf_kept t e w) ≤ length (leaf_results t e w)
kept_by t e w true true ea eb = rw (results_yes t e w ea eb) (leaf_length t e w)
kept_by t e w true false ea eb = rw (kept_not_held t e w ea eb) (omega arith)
kept_by t e w false b ea eb = rw (kept_not_kind t e w ea) (omega arith)

pub leaf_kept_lem : (t : Table) (e n : ℕ) (m : Memory) → Digits m
    → length (leaf_kept t e (pack n m)) ≤ length (after t e (leaf n m))
leaf_kept_lem t e n m h = rw (← (node_results t e n m h)) (kept_by t e (pack n m) _ _ refl refl)

pair_kept : (t : Table) (e n : ℕ) (m : Memory) (l r : Residual) (b : Bool) → kind_of (term_of t n) ≡ 4
    → member t (ref_of (term_of t n)) m e ≡ b → length (after_kept t e l) ≤ length (after t e l)
    → length (after_kept t e r) ≤ length (after t e r)
    → length (after_kept t e (pair n m l r)) ≤ length (after t e (pair n m l r))
pair_kept t e n m l r true k h fl fr =
    rw (pair_both t e n m l r k h, kept_both t e n m l r h, length_pairs) (mul-le-mul fl fr)
pair_kept t e n m l r false k h fl fr =
    rw (pair_either t e n m l r k h, kept_either t e n m l r h)
    (omega (
      arith,
      fl,
      fr,
      length-append (pairs n m (after_kept t e l) (r ∷ [])) (pairs n m (l ∷ []) (after_kept t e r)),
      length_pairs n m (after_kept t e l) (r ∷ []),
      length_pairs n m (l ∷ []) (after_kept t e r),
    ))

pub kept_length : (t : Table) (e : ℕ) (r : Residual) → Valid t r → length (after_kept t e r) ≤ length (after t e r)
unfolding after_kept
kept_length t e (leaf n m) v = rw length-map (leaf_kept_lem t e n m v.0.0)
kept_length t e (pair n m l r) v =
    pair_kept t e n m l r _ v.1 refl (kept_length t e l v.2) (kept_length t e r v.3)
