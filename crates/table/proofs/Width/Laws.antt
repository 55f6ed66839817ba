-- No number of a list is found above a bound exactly where each is at most that; so of the widths of levels and 8.
--     above_out, above_in
-- Assumes nothing.
use Rattle.std.specs.Prelude.{ℕ, zero, suc, ◌≤◌, ◌≡◌, refl, List, [], ◌∷◌, get_or, leb}
use Rattle.std.proofs.Common.{arith, leb→le, le→leb}
use Rattle.std.proofs.Math.Option.{none}
use Rattle.table.proofs.FirstLaws.{or_else_out, or_else_in, unless_out, unless_in}
use Rattle.table.specs.Width.{first_above}

pub above_out : (bound i : ℕ) (l : List ℕ) → first_above bound i l ≡ none → (j : ℕ) → get_or l j 0 ≤ bound
unfolding first_above
above_out bound i [] h j = omega arith
above_out bound i (n ∷ l) h zero = leb→le n bound (unless_out (leb n bound) i (or_else_out _ _ h).0)
above_out bound i (n ∷ l) h (suc j) = above_out bound (suc i) l (or_else_out _ _ h).1 j

pub above_in : (bound i : ℕ) (l : List ℕ) → ((j : ℕ) → get_or l j 0 ≤ bound) → first_above bound i l ≡ none
unfolding first_above
above_in bound i [] h = refl
above_in bound i (n ∷ l) h =
    or_else_in _ _ (unless_in (leb n bound) i (le→leb n bound (h 0))) (above_in bound (suc i) l (λ j. h (suc j)))
