-- Decimal numbers as crate `io` makes them.
--     decimal_digits     the fewest digits that hold a number are its decimal
--     few_digits         of a u64 they are 20 at most
-- Assumes nothing.
use Rattle.std.specs.Prelude.{ℕ, zero, suc, ◌+◌, ◌-◌, ◌*◌, ◌/◌, ◌%◌, ◌<◌, ◌≤◌, ◌^◌, ◌≡◌}
use Rattle.std.proofs.Common.{arith, pow-suc, sym, lt-ltb}
use Rattle.std.proofs.Math.Decide.{dec_lt}
use Rattle.io.specs.Digits.{hex_digit_ascii, last_digits, IsDigitCount}
use Rattle.decimal.specs.Decimal.{decimal_within, decimal}
use Rattle.decimal.proofs.Decimal.Laws.{within_one, within_more}

pow_positive : (k : ℕ) → 1 ≤ 10 ^ k
pow_positive zero = omega arith
pow_positive (suc k) = omega (arith, pow-suc 10 k, pow_positive k)

glyph_digit : (d : ℕ) → d < 10 → hex_digit_ascii d ≡ 48 + d
glyph_digit d h = rw (lt-ltb d 10 h)

-- a number of more than one digit
least : (n k : ℕ) → IsDigitCount 10 1 n (suc (suc k)) → 10 ^ k * 10 ≤ n
least n k f =
    let e : suc (suc k) - 1 ≡ suc k = omega arith in
    rw (e, pow-suc 10 k) at (f.2 (omega arith))

shorter : (n k : ℕ) → IsDigitCount 10 1 n (suc (suc k)) → IsDigitCount 10 1 (n / 10) (suc k)
shorter n k f =
    let e : suc k - 1 ≡ k = omega arith in
    (omega arith, omega (arith, f.1, pow-suc 10 (suc k)), λ z. rw e (omega (arith, least n k f)))

fewest : (k m n : ℕ) → k ≤ m → IsDigitCount 10 1 n k → last_digits 10 k n ≡ decimal_within m n
fewest zero m n h f = absurd (omega (arith, f.0))
fewest (suc k) zero n h f = absurd (omega arith)
fewest (suc zero) (suc m) n h f =
    let z : n % 10 ≡ n = omega (arith, f.1) in
    rw (z, glyph_digit n (omega (arith, f.1))) (sym (within_one m n (omega (arith, f.1))))
fewest (suc (suc k)) (suc m) n h f =
    rw (
      within_more m n (omega (arith, least n k f, pow_positive k)),
      ← (fewest (suc k) m (n / 10) (omega arith) (shorter n k f)),
      glyph_digit (n % 10) (omega arith),
    )

pub decimal_digits : (k n : ℕ) → k ≤ 20 → IsDigitCount 10 1 n k → last_digits 10 k n ≡ decimal n
unfolding decimal
decimal_digits k n h f = fewest k 20 n h f

-- ---- a u64 has at most 20 digits

grows : (d : ℕ) → 100000000000000000000 ≤ 10 ^ (20 + d)
grows zero = omega arith
grows (suc d) =
    let z : 20 + suc d ≡ suc (20 + d) = omega arith in
    rw (z, pow-suc 10 (20 + d)) (omega (arith, grows d))

pub few_digits : (n k : ℕ) → n < 18446744073709551616 → IsDigitCount 10 1 n k → k ≤ 20
few_digits n k h f =
    elim (dec_lt 20 k) [
      | yes z ↦
          let y : 20 + (k - 1 - 20) ≡ k - 1 = omega arith in
          absurd (omega (arith, f.2 (omega arith), rw y at (grows (k - 1 - 20))))
      | no z ↦ omega arith
    ]
