-- What is told of a tree by whether there are residuals after the event.
--     still_prepared     there are none: all that there is to prepare is the number 0
--     prefix_word        there are some, and it is a leaf: a prefix whose set holds the event
--     pair_word          a pair's node is no prefix
-- Assumes nothing.
use Rattle.std.specs.Prelude.{ℕ, ◌+◌, ◌*◌, ◌<◌, ◌≤◌, ◌≡◌, refl, Bool, true, false, List, [], ◌∷◌, length, get_or, eqb}
use Rattle.std.proofs.Common.{arith, ap, ◌∙◌, inl, eqb-true}
use Rattle.std.proofs.lemmas.Bool.{eqb-false}
use Rattle.table.specs.Table.{Table}
use Rattle.table.specs.Node.{term_of, kind_of, ref_of}
use Rattle.table.specs.Memory.{Memory}
use Rattle.table.specs.Member.{member}
use Rattle.node_word.specs.Word.{pack}
use Rattle.residuals.specs.Residual.{Residual, leaf, pair, after}
use Rattle.resolving.specs.Distinct.Laws.{window_none}
use Rattle.resolving.specs.Words.{kind_at, holds_at}
use Rattle.tree_walk.specs.Walk.{leaf_kept}
use Rattle.tree_walk.specs.Forest.{Valid, after_kept}
use Rattle.tree_walk.specs.Forest.Words.{kind_of_node, holds_of_node}
use Rattle.tree_walk.specs.Course.{Prepared}
use Rattle.tree_ways.specs.Takes.Counts.{leaf_not_kind, leaf_not_held, leaf_kept_lem, kept_length}

no_length : {A : Type 0} (l : List A) → length l ≤ 0 → l ≡ []
no_length [] h = refl
no_length (x ∷ l) h = absurd (omega arith)

pub still_prepared : (t : Table) (e : ℕ) (store : List ℕ) (k : ℕ) (r : Residual) → Valid t r
    → length (after t e r) ≡ 0 → get_or store (k * 257) 0 ≡ 0 → Prepared t e store k r
still_prepared t e store k (leaf n m) v z b =
    let none : leaf_kept t e (pack n m) ≡ [] = no_length (leaf_kept t e (pack n m))
    (omega (arith, leaf_kept_lem t e n m v.0.0)) in
    record { number = rw none b; indices = rw none (window_none (k * 257 + 1) store) }
still_prepared t e store k (pair n m l r) v z b =
    inl (b, no_length (after_kept t e (pair n m l r)) (omega (arith, kept_length t e (pair n m l r) v)))

moves_by : (t : Table) (e n : ℕ) (m : Memory) (a b : Bool) → eqb (kind_of (term_of t n)) 2 ≡ a
    → member t (ref_of (term_of t n)) m e ≡ b → 0 < length (after t e (leaf n m))
    → (kind_of (term_of t n) ≡ 2) × (member t (ref_of (term_of t n)) m e ≡ true)
moves_by t e n m true true ea eb h = (eqb-true (kind_of (term_of t n)) 2 ea, eb)
moves_by t e n m true false ea eb h =
    absurd (omega (arith, leaf_not_held t e n m (eqb-true (kind_of (term_of t n)) 2 ea) eb))
moves_by t e n m false b ea eb h = absurd (omega (arith, leaf_not_kind t e n m (eqb-false (kind_of (term_of t n)) 2 ea)))

module _ (t : Table) (e n : ℕ) (m : Memory) where
  pub prefix_word : Valid t (leaf n m) → 0 < length (after t e (leaf n m)) → {w : ℕ} → w ≡ pack n m
      → (kind_at t w ≡ 2) × (holds_at t e w ≡ true)
  prefix_word v h q =
      let z = moves_by t e n m _ _ refl refl h in
      rw q (kind_of_node n m v.0.0 t ∙ z.0, holds_of_node n m v.0.0 t e ∙ z.1)

pub pair_word : (t : Table) (n : ℕ) (m : Memory) (l r : Residual) → Valid t (pair n m l r) → {w : ℕ} → w ≡ pack n m
    → kind_at t w ≡ 2 → ⊥
pair_word t n m l r v q z = omega (arith, ap (kind_at t) q, kind_of_node n m v.0.0 t, v.1, z)
