-- What this crate proves of the definitions: statements only. The proof of each is in `proofs/Theorems.antt`, under the
-- same name.
--     Denotes     a number's digits are those bytes that denote it, with no zero in front, and no others
--     Fits        a number below 10^k has k digits at most
--     Rows        the worked examples
-- Assumes nothing.
use Rattle.std.specs.Prelude.{ℕ, ◌≤◌, ◌<◌, ◌^◌, ◌≡◌, ◌↔◌, List, [], ◌∷◌, length}
use Rattle.decimal.specs.Decimal.{decimal, denoted, IsDecimal}

unfoldable pub Denotes : Type 0
Denotes = (n : ℕ) (ds : List ℕ) → n < 10 ^ 20 → (ds ≡ decimal n) ↔ IsDecimal n ds

unfoldable pub Fits : Type 0
Fits = (k n : ℕ) → 1 ≤ k → k ≤ 20 → n < 10 ^ k → length (decimal n) ≤ k

-- 0; a number of several digits; the largest of 64 bits
unfoldable pub Rows : Type 0
Rows =
    (decimal 0 ≡ 48 ∷ [])
    × ((decimal 1050 ≡ 49 ∷ 48 ∷ 53 ∷ 48 ∷ [])
    × ((decimal 18446744073709551615
    ≡ 49 ∷ 56 ∷ 52 ∷ 52 ∷ 54 ∷ 55 ∷ 52 ∷ 52 ∷ 48 ∷ 55 ∷ 51 ∷ 55 ∷ 48 ∷ 57 ∷ 53 ∷ 53 ∷ 49 ∷ 54 ∷ 49 ∷ 53 ∷ [])
    × (denoted (49 ∷ 48 ∷ 53 ∷ 48 ∷ []) ≡ 1050)))
