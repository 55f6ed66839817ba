-- The digits of a number.
--     within_one, within_more        decimal_within by cases;  within_short: its length
--     denoted_last                   one digit more
--     within_digits, is_decimal      a number's digits denote it
-- Not here: that no others do, `Decimal/Unique.antt`. Assumes nothing.
use Rattle.std.specs.Prelude.{ℕ, zero, suc, ◌+◌, ◌-◌, ◌*◌, ◌/◌, ◌%◌, ◌^◌, ◌≤◌, ◌<◌, ◌≡◌, refl, List, [], ◌∷◌, ◌++◌, length, get_or}
use native.Mathlib.Omega.{arith}
use Rattle.std.proofs.Math.Decide.{dec_lt}
use Rattle.std.proofs.Common.{pow-suc, ◌∙◌, length-append, lt-ltb, le-ltb}
use Rattle.std.proofs.Math.ListN.{get_or-append}
use Rattle.numbers.specs.Every.{All, all_append}
use Rattle.decimal.specs.Decimal.{decimal_within, decimal, denoted_after, denoted, IsDecimal}

-- ---- decimal_within, by cases
module _ (m n : ℕ) where
  pub within_one : n < 10 → decimal_within (suc m) n ≡ (48 + n) ∷ []
  unfolding decimal_within
  within_one h = rw (lt-ltb n 10 h, decimal_within)

  pub within_more : 10 ≤ n → decimal_within (suc m) n ≡ decimal_within m (n / 10) ++ ((48 + n % 10) ∷ [])
  unfolding decimal_within
  within_more h = rw (le-ltb n 10 h, decimal_within)

-- how many digits: k at most below 10^k
pub power_1 : 10 ^ 1 ≡ 10
power_1 = refl

pub within_short : (k m n : ℕ) → n < 10 ^ suc k → length (decimal_within m n) ≤ suc k
within_short k zero n h = unfold decimal_within in omega arith
within_short zero (suc m) n h =
    let l : n < 10 = omega (arith, power_1) in
    rw (within_one m n l) (omega arith)
within_short (suc k) (suc m) n h =
    let e = pow-suc 10 (suc k) in
    by (dec_lt n 10) (within_short k m (n / 10) (omega arith))
  where
    by : Dec (n < 10) → length (decimal_within m (n / 10)) ≤ suc k → length (decimal_within (suc m) n) ≤ suc (suc k)
    by (yes l) short = rw (within_one m n l) (omega arith)
    by (no l) short =
        rw (within_more m n (omega arith), length-append (decimal_within m (n / 10))) (omega arith)

-- ---- denoted
after_last : (front : ℕ) (ds : List ℕ) (d : ℕ)
    → denoted_after front (ds ++ (d ∷ [])) ≡ denoted_after front ds * 10 + (d - 48)
unfolding denoted_after
after_last front [] d = refl
after_last front (x ∷ ds) d = after_last (front * 10 + (x - 48)) ds d

pub denoted_last : (ds : List ℕ) (d : ℕ) → denoted (ds ++ (d ∷ [])) ≡ denoted ds * 10 + (d - 48)
unfolding denoted
denoted_last ds d = after_last 0 ds d

pub denoted_one : (d : ℕ) → denoted (d ∷ []) ≡ d - 48
unfolding denoted denoted_after
denoted_one d = omega arith

after_grows : (front : ℕ) (ds : List ℕ) → front ≤ denoted_after front ds
unfolding denoted_after
after_grows front [] = omega arith
after_grows front (d ∷ ds) = omega (arith, after_grows (front * 10 + (d - 48)) ds)

-- digits that do not begin with `0` denote 1 or more
pub denoted_some : (ds : List ℕ) → 1 ≤ length ds → All (λ d. (48 ≤ d) × (d < 58)) ds → (get_or ds 0 0 ≡ 48 → ⊥)
    → 1 ≤ denoted ds
unfolding denoted denoted_after
denoted_some [] h a f = absurd (omega arith)
denoted_some (d ∷ ds) h a f =
    let l = a.0.0 in
    let n : (d ≡ 48 → ⊥) = f in
    omega (arith, after_grows (0 * 10 + (d - 48)) ds)

-- ---- a number's digits denote it
pub record Digits (n : ℕ) (ds : List ℕ) : Type 0 where
  pub digits : All (λ d. (48 ≤ d) × (d < 58)) ds
  pub some : 1 ≤ length ds
  pub value : denoted ds ≡ n
  pub front : 1 ≤ n → get_or ds 0 0 ≡ 48 → ⊥
  pub one : n < 10 → length ds ≡ 1

one_digit : (n : ℕ) → n < 10 → Digits n ((48 + n) ∷ [])
one_digit n h =
    record {
      digits = ((omega arith, omega arith), tt);
      some = omega arith;
      value = denoted_one (48 + n) ∙ omega arith;
      front = λ p e. omega arith;
      one = λ l. refl;
    }

more_digits : (n : ℕ) (ds : List ℕ) → 10 ≤ n → Digits (n / 10) ds → Digits n (ds ++ ((48 + n % 10) ∷ []))
more_digits n ds h w =
    let v = w.value in
    let s = w.some in
    record {
      digits = all_append (λ d. (48 ≤ d) × (d < 58)) ds _ w.digits ((omega arith, omega arith), tt);
      some = rw (length-append ds) (omega arith);
      value = denoted_last ds _ ∙ omega arith;
      front = λ p. rw (get_or-append ds _ 0 0 (omega arith)) (w.front (omega arith));
      one = λ l. absurd (omega arith);
    }

pub within_digits : (m n : ℕ) → n < 10 ^ suc m → Digits n (decimal_within (suc m) n)
within_digits zero n h =
    let l : n < 10 = omega (arith, power_1) in
    rw (within_one zero n l) (one_digit n l)
within_digits (suc m) n h =
    let e = pow-suc 10 (suc m) in
    by (dec_lt n 10) (within_digits m (n / 10) (omega arith))
  where
    by : Dec (n < 10) → Digits (n / 10) (decimal_within (suc m) (n / 10)) → Digits n (decimal_within (suc (suc m)) n)
    by (yes l) w = rw (within_one (suc m) n l) (one_digit n l)
    by (no l) w =
        let k : 10 ≤ n = omega arith in
        rw (within_more (suc m) n k) (more_digits n _ k w)

pub is_decimal : (n : ℕ) → n < 10 ^ 20 → IsDecimal n (decimal n)
unfolding decimal
is_decimal n h =
    let w = within_digits 19 n h in
    record {
      digits = w.digits;
      some = w.some;
      value = w.value;
      front = by (dec_lt n 1) w;
    }
  where
    by : Dec (n < 1) → Digits n (decimal_within 20 n) → get_or (decimal_within 20 n) 0 0 ≡ 48
        → length (decimal_within 20 n) ≡ 1
    by (yes l) w e = w.one (omega arith)
    by (no l) w e = absurd (w.front (omega arith) e)
