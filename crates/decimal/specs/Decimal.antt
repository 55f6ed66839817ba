-- A number in decimal, as bytes in ASCII (ours; 01, "The program and its lines", and 02, W2, print numbers).
--     decimal          the digits of a number, with no zero in front
--     decimal_within   of at most so many digits
--     denoted          the number that some digits denote
--     IsDecimal        some bytes are the digits of a number, by what they denote alone
-- The laws are in `proofs/Decimal/Laws.antt` and `proofs/Decimal/Unique.antt`. Assumes nothing.
use Rattle.std.specs.Prelude.{ℕ, zero, suc, ◌+◌, ◌-◌, ◌*◌, ◌/◌, ◌%◌, ◌≤◌, ◌<◌, ◌≡◌, true, false, List, [], ◌∷◌, ◌++◌, length, get_or, ltb}
use Rattle.numbers.specs.Every.{All}

-- of at most so many digits; `0` is 48
unfoldable pub decimal_within : ℕ → ℕ → List ℕ
decimal_within zero n = []
decimal_within (suc k) n =
    elim (ltb n 10) [
      | true ↦ (48 + n) ∷ []
      | false ↦ decimal_within k (n / 10) ++ ((48 + n % 10) ∷ [])
    ]

-- a number below 10^20, as every u64 is
unfoldable pub decimal : ℕ → List ℕ
decimal n = decimal_within 20 n

-- the number that digits denote, the highest first, after those that denote `front`
unfoldable pub denoted_after : ℕ → List ℕ → ℕ
denoted_after front [] = front
denoted_after front (d ∷ ds) = denoted_after (front * 10 + (d - 48)) ds

unfoldable pub denoted : List ℕ → ℕ
denoted ds = denoted_after 0 ds

-- the bytes ds are the digits of n
pub record IsDecimal (n : ℕ) (ds : List ℕ) : Type 0 where
  -- each is `0` to `9`, and there is one at least
  pub digits : All (λ d. (48 ≤ d) × (d < 58)) ds
  pub some : 1 ≤ length ds
  pub value : denoted ds ≡ n
  -- no `0` stands in front of another digit
  pub front : get_or ds 0 0 ≡ 48 → length ds ≡ 1
