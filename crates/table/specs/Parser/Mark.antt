-- Numbers that are marked with whether each keeps its own bound; lists of them.
--     Mark, mark, numbers, Pass    a number and its test; their numbers; they all pass
-- The laws are in `proofs/Parser/Mark.antt`. Assumes nothing.
use Rattle.std.specs.Prelude.{ℕ, ◌≡◌, Bool, true, List, [], ◌∷◌}
use Rattle.numbers.specs.Every.{All}

pub record Mark : Type 0 where
  pub number : ℕ
  pub passes : Bool

abbrev pub mark : ℕ → Bool → Mark
mark n b = record { number = n; passes = b }

abbrev pub numbers : List Mark → List ℕ
numbers [] = []
numbers (m ∷ ms) = m.number ∷ numbers ms

abbrev pub Pass : List Mark → Type 0
Pass = All (λ m. m.passes ≡ true)
