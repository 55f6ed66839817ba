-- No other bytes than a number's digits denote it with no zero in front; and the digits of a number, one by one.
--     decimal_is                      bytes that denote a number are its digits
--     decimal_one, decimal_more       decimal by cases;  decimal_short: its length
-- Not here: that a number's digits denote it, `Decimal/Laws.antt`. Assumes nothing.
use Rattle.std.specs.Prelude.{ℕ, zero, suc, ◌+◌, ◌-◌, ◌*◌, ◌/◌, ◌%◌, ◌^◌, ◌≤◌, ◌<◌, ◌≡◌, refl, List, [], ◌∷◌, ◌++◌, length, get_or, take}
use Rattle.std.proofs.Common.{arith, pow-suc, ap, sym, ◌∙◌, subst, take-suc, take_all, length-take-le}
use Rattle.std.proofs.Math.ListN.{get_or-append}
use Rattle.numbers.specs.Every.{All}
use Rattle.decimal.specs.Decimal.{decimal_within, decimal, denoted, IsDecimal}
use Rattle.decimal.proofs.Decimal.Laws.{within_one, within_more, within_short, within_digits, power_1}
use Rattle.decimal.proofs.Decimal.Laws.{denoted_one, denoted_last, denoted_some}

-- ---- bytes that denote a number
-- digits: all but the last, and the last
record Split (ds : List ℕ) (k : ℕ) : Type 0 where
  init : List ℕ
  last : ℕ
  whole : ds ≡ init ++ (last ∷ [])
  size : length init ≡ k

split : (ds : List ℕ) (k : ℕ) → length ds ≡ suc k → Split ds k
split ds k e =
    record {
      init = take k ds;
      last = get_or ds k 0;
      whole = sym (sym (take-suc ds k 0 (omega arith)) ∙ take_all (suc k) ds (omega arith));
      size = length-take-le k ds (omega arith);
    }

all_left : (P : ℕ → Type 0) (l r : List ℕ) → All P (l ++ r) → All P l
all_left P [] r h = tt
all_left P (x ∷ l) r h = (h.0, all_left P l r h.1)

all_last : (P : ℕ → Type 0) (l : List ℕ) (d : ℕ) → All P (l ++ (d ∷ [])) → P d
all_last P [] d h = h.0
all_last P (x ∷ l) d h = all_last P l d h.1

abbrev Digit : ℕ → Type 0
Digit d = (48 ≤ d) × (d < 58)

-- n of two digits or more: the last, and those before it
record Last (n k : ℕ) (ds : List ℕ) : Type 0 where
  init : List ℕ
  last : ℕ
  whole : ds ≡ init ++ (last ∷ [])
  size : length init ≡ suc k
  digits : All Digit init
  low : 48 ≤ last
  high : last < 58
  value : n ≡ denoted init * 10 + (last - 48)
  front : get_or init 0 0 ≡ 48 → ⊥
  some : 1 ≤ denoted init

last_of : (n k : ℕ) (ds : List ℕ) → length ds ≡ suc (suc k) → All Digit ds → denoted ds ≡ n
    → (get_or ds 0 0 ≡ 48 → ⊥) → Last n k ds
last_of n k ds l a v f =
    let s = split ds (suc k) l in
    let size = s.size in
    let a' : All Digit (s.init ++ (s.last ∷ [])) = subst (All Digit) s.whole a in
    let digits = all_left Digit s.init (s.last ∷ []) a' in
    let first : get_or ds 0 0 ≡ get_or s.init 0 0 =
    ap (λ (t : List ℕ). get_or t 0 0) s.whole ∙ get_or-append s.init _ 0 0 (omega arith) in
    let front : (get_or s.init 0 0 ≡ 48 → ⊥) = λ e. f (first ∙ e) in
    record {
      init = s.init;
      last = s.last;
      whole = s.whole;
      size = size;
      digits = digits;
      low = (all_last Digit s.init s.last a').0;
      high = (all_last Digit s.init s.last a').1;
      value = sym v ∙ ap denoted s.whole ∙ denoted_last s.init s.last;
      front = front;
      some = denoted_some s.init (omega arith) digits front;
    }

unique : (k m n : ℕ) (ds : List ℕ) → n < 10 ^ suc m → length ds ≡ suc k → All Digit ds → denoted ds ≡ n
    → (1 ≤ k → get_or ds 0 0 ≡ 48 → ⊥) → ds ≡ decimal_within (suc m) n
unique zero m n [] h l a v f = absurd (omega arith)
unique zero m n (d ∷ []) h l a v f =
    let x = denoted_one d in
    let lo = a.0.0 in
    let hi = a.0.1 in
    let small : n < 10 = omega arith in
    let same : d ≡ 48 + n = omega arith in
    rw (within_one m n small) (ap (λ (c : ℕ). c ∷ []) same)
unique zero m n (d ∷ e ∷ ds) h l a v f = absurd (omega arith)
unique (suc k) zero n ds h l a v f =
    let w = last_of n k ds l a v (f (omega arith)) in
    absurd (omega (arith, power_1, w.value, w.some))
unique (suc k) (suc m) n ds h l a v f =
    let w = last_of n k ds l a v (f (omega arith)) in
    let e = pow-suc 10 (suc m) in
    let value = w.value in
    let lo = w.low in
    let hi = w.high in
    let some = w.some in
    let high : n / 10 ≡ denoted w.init = omega arith in
    let low : 48 + n % 10 ≡ w.last = omega arith in
    let rest = unique k m (denoted w.init) w.init (omega arith) w.size w.digits refl (λ p. w.front) in
    w.whole
    ∙ sym (within_more (suc m) n (omega arith)
    ∙ rw (low, high) (ap (λ (t : List ℕ). t ++ (w.last ∷ [])) (sym rest)))

pub decimal_is : (n : ℕ) (ds : List ℕ) → n < 10 ^ 20 → IsDecimal n ds → ds ≡ decimal n
unfolding decimal
decimal_is n ds h w =
    let some = w.some in
    let e : length ds ≡ suc (length ds - 1) = omega arith in
    unique (length ds - 1) 19 n ds h e w.digits w.value (λ p z. omega (arith, w.front z))

-- ---- decimal, by cases
pub decimal_one : (n : ℕ) → n < 10 → decimal n ≡ (48 + n) ∷ []
unfolding decimal
decimal_one n h = within_one 19 n h

pub decimal_more : (n : ℕ) → 10 ≤ n → n < 10 ^ 20 → decimal n ≡ decimal (n / 10) ++ ((48 + n % 10) ∷ [])
unfolding decimal
decimal_more n h l =
    let small : n / 10 < 10 ^ 19 = omega arith in
    let w = within_digits 18 (n / 10) small in
    let e : length (decimal_within 19 (n / 10)) ≡ suc (length (decimal_within 19 (n / 10)) - 1) =
    omega (arith, w.some) in
    let same = unique _ 19 (n / 10) (decimal_within 19 (n / 10)) (omega arith) e w.digits w.value
    (λ p. w.front (omega arith)) in
    within_more 19 n h ∙ ap (λ (t : List ℕ). t ++ ((48 + n % 10) ∷ [])) same

pub decimal_short : (k n : ℕ) → n < 10 ^ suc k → length (decimal n) ≤ suc k
unfolding decimal
decimal_short k n h = within_short k 20 n h
