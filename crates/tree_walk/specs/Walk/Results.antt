-- The results of a walk by mode and kind, and slots followed by each result.
--     onto_before, onto_head, onto_append                           slots
--     kept_pair, kept_leaf, both_sides, one_side, moved_leaf        results
-- Assumes nothing.
use Rattle.std.specs.Prelude.{ℕ, ◌+◌, ◌*◌, ◌/◌, ◌%◌, ◌≡◌, refl, true, false, List, [], ◌∷◌, ◌++◌, map}
use Rattle.std.proofs.Common.{arith, ap}
use borrow.Author.Tests.{eq-eqb, ne_eqb}
use Rattle.table.specs.Table.{Table}
use Rattle.resolving.specs.ResidualWords.Pushed.{push_all_append}
use Rattle.resolving.specs.Words.{kind_at, holds_at}
use Rattle.resolving.specs.ResidualWords.{pushed, push_all}
use Rattle.tree_walk.specs.Walk.{options, joins, before, results, onto}

-- ---- onto

pub onto_before : (slot : List ℕ) (w : ℕ) (cs : List (List ℕ)) → onto slot (before w cs) ≡ onto (pushed slot w) cs
unfolding onto before push_all
onto_before slot w [] = refl
onto_before slot w (c ∷ cs) = ap (λ (l : List (List ℕ)). push_all (pushed slot w) c ∷ l) (onto_before slot w cs)

pub onto_head : (slot o : List ℕ) (cs : List (List ℕ)) → onto slot (map (λ c. o ++ c) cs) ≡ onto (push_all slot o) cs
unfolding onto
onto_head slot o [] = refl
onto_head slot o (c ∷ cs) =
    rw (push_all_append slot o c) (ap (λ (l : List (List ℕ)). push_all (push_all slot o) c ∷ l) (onto_head slot o cs))

pub onto_append : (slot : List ℕ) (a b : List (List ℕ)) → onto slot (a ++ b) ≡ onto slot a ++ onto slot b
unfolding onto
onto_append slot [] b = refl
onto_append slot (c ∷ a) b = ap (λ (l : List (List ℕ)). push_all slot c ∷ l) (onto_append slot a b)

-- ---- results, by mode and kind

module _ (t : Table) (e w : ℕ) (ws : List ℕ) (modes : ℕ) where
  pub kept_pair : modes % 2 ≡ 0 → kind_at t w ≡ 4 → results t e (w ∷ ws) modes
      ≡ before w (results t e ws (modes / 2 * 4))
  unfolding results
  kept_pair z k = rw (eq-eqb _ _ z, eq-eqb _ _ k, results)

  pub kept_leaf : modes % 2 ≡ 0 → (kind_at t w ≡ 4 → ⊥) → results t e (w ∷ ws) modes
      ≡ before w (results t e ws (modes / 2))
  unfolding results
  kept_leaf z k = rw (eq-eqb _ _ z, ne_eqb _ _ k, results)

  pub both_sides : (modes % 2 ≡ 0 → ⊥) → kind_at t w ≡ 4 → holds_at t e w ≡ true → results t e (w ∷ ws) modes
      ≡ before w (results t e ws (modes / 2 * 4 + 3))
  unfolding results
  both_sides z k h = rw (ne_eqb _ _ z, eq-eqb _ _ k, h, results)

  pub one_side : (modes % 2 ≡ 0 → ⊥) → kind_at t w ≡ 4 → holds_at t e w ≡ false
      → results t e (w ∷ ws) modes ≡ before w (results t e ws (modes / 2 * 4 + 1)) ++ before w
      (results t e ws (modes / 2 * 4 + 2))
  unfolding results
  one_side z k h = rw (ne_eqb _ _ z, eq-eqb _ _ k, h, results)

  pub moved_leaf : (modes % 2 ≡ 0 → ⊥) → (kind_at t w ≡ 4 → ⊥) → results t e (w ∷ ws) modes
      ≡ joins (options t e w) (results t e ws (modes / 2))
  unfolding results
  moved_leaf z k = rw (ne_eqb _ _ z, ne_eqb _ _ k, results)

pub odd : (rest : ℕ) → (rest * 2 + 1) % 2 ≡ 0 → ⊥
odd rest e = omega arith

pub half : (rest : ℕ) → (rest * 2 + 1) / 2 ≡ rest
half rest = omega arith
