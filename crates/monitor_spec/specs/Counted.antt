-- How many residuals a list has, by the residuals themselves (01, "Residuals": "A residual already held is not held
-- twice"): their words, and so the layout of a node word (02, W6), do not come into it.
--     Once      no residual stands twice in a list
--     Among     a residual stands in a list
--     Counts    n is how many different residuals a list has
-- Assumes nothing.
use Rattle.std.specs.Prelude.{ℕ, ◌≡◌, List, [], ◌∷◌, ◌↔◌, length}
use Rattle.numbers.specs.Every.{All}
use Rattle.numbers.specs.Some.{Any}
use Rattle.residuals.specs.Residual.{Residual}

abbrev pub Among : Residual → List Residual → Type 0
Among r rs = Any (λ q. r ≡ q) rs

abbrev pub Once : List Residual → Type 0
Once [] = Unit
Once (r ∷ rs) = All (λ q. r ≡ q → ⊥) rs × Once rs

-- a list of n elements has each of them just once
unfoldable pub Counts : List Residual → ℕ → Type 0
Counts rs n = (qs : List Residual) × Once qs × ((r : Residual) → Among r qs ↔ Among r rs) × (n ≡ length qs)
