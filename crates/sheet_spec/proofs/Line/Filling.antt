-- The loop that puts a number at the right end of a part of a line.
--     Filling, fill_next, fill_done                     the digits of a number from the right end
--     right_one, right_more                             `right`, digit by digit;  right_length
-- Assumes nothing.
use Rattle.std.specs.Prelude.{ℕ, zero, suc, ◌+◌, ◌-◌, ◌/◌, ◌%◌, ◌^◌, ◌≤◌, ◌<◌, ◌≡◌, refl, List, [], ◌∷◌, ◌++◌, length, set, take, drop}
use Rattle.std.proofs.Common.{arith, pow-suc, ap, sym, ◌∙◌, subst, append_assoc, length-set, length-append}
use Rattle.std.proofs.lemmas.List.{length-replicate, take-set-le, set_split}
use Rattle.decimal.specs.Decimal.{decimal}
use Rattle.decimal.proofs.Decimal.Unique.{decimal_one, decimal_more, decimal_short}
use Rattle.sheet_spec.specs.Line.{spaces, right}

-- ---- `right`, digit by digit
pub right_one : (k n : ℕ) → n < 10 → right (suc k) n ≡ spaces k ++ ((48 + n) ∷ [])
unfolding right
right_one k n h =
    let z : suc k - 1 ≡ k = omega arith in
    rw (decimal_one n h, z) refl

pub right_more : (k n : ℕ) → 10 ≤ n → n < 10 ^ 20 → right (suc k) n ≡ right k (n / 10) ++ ((48 + n % 10) ∷ [])
unfolding right
right_more k n h l =
    let ds = decimal (n / 10) in
    let e = decimal_more n h l in
    let size = ap length e ∙ length-append ds ((48 + n % 10) ∷ []) in
    let z : suc k - length (decimal n) ≡ k - length ds = omega arith in
    rw (z, e) (sym (append_assoc (spaces (k - length ds)) ds ((48 + n % 10) ∷ [])))

pub right_length : (k n : ℕ) → n < 10 ^ suc k → length (right (suc k) n) ≡ suc k
unfolding right
right_length k n h =
    let short = decimal_short k n h in
    rw (length-append (spaces (suc k - length (decimal n))), length-replicate {A = ℕ} (suc k - length (decimal n)) 32)
    (omega arith)

-- ---- the digits of a number from the right end
-- what is left of a number, to be put in the first k columns
pub record Filling (w n : ℕ) (part : List ℕ) (k rest : ℕ) : Type 0 where
  pub size : length part ≡ w
  pub some : 1 ≤ k
  pub within : k ≤ w
  pub small : rest < 10 ^ k
  pub few : rest < 18446744073709551616
  pub blanks : take k part ≡ spaces k
  pub target : right k rest ++ drop k part ≡ right w n

-- a number of several digits has several columns
columns : (k rest : ℕ) → rest < 10 ^ k → 10 ≤ rest → 2 ≤ k
columns zero rest h l = absurd (omega arith)
columns (suc zero) rest h l = absurd (omega arith)
columns (suc (suc k)) rest h l = omega arith

replicate_take : (j : ℕ) (part : List ℕ) → take (suc j) part ≡ spaces (suc j) → take j part ≡ spaces j
replicate_take zero part e = refl
replicate_take (suc j) [] e = let z = ap length e in absurd (omega arith)
replicate_take (suc j) (x ∷ part) e =
    let a : x ≡ 32 = cc in
    let b : take (suc j) part ≡ spaces (suc j) = cc in
    rw (a, replicate_take j part b) refl

drop_set : (part : List ℕ) (j d : ℕ) → j < length part → drop j (set part j d) ≡ d ∷ drop (suc j) part
drop_set [] j d h = absurd (omega arith)
drop_set (x ∷ part) zero d h = refl
drop_set (x ∷ part) (suc j) d h = drop_set part j d (omega arith)

fill_turn : (w n : ℕ) (part : List ℕ) (j rest : ℕ) → Filling w n part (suc j) rest → 10 ≤ rest
    → Filling w n (set part j (48 + rest % 10)) j (rest / 10)
fill_turn w n part j rest f l =
    let size = f.size in
    let within = f.within in
    let small = f.small in
    let few = f.few in
    let many = columns (suc j) rest small l in
    let e = pow-suc 10 j in
    record {
      size = rw (length-set part j (48 + rest % 10)) size;
      some = omega arith;
      within = omega arith;
      small = omega arith;
      few = omega arith;
      blanks = take-set-le j part j (48 + rest % 10) (omega arith) ∙ replicate_take j part f.blanks;
      target =
          rw (drop_set part j (48 + rest % 10) (omega arith))
          (sym (append_assoc (right j (rest / 10)) ((48 + rest % 10) ∷ []) (drop (suc j) part))
          ∙ rw (← (right_more j rest l (omega arith))) f.target);
    }

module _ (w n : ℕ) (part : List ℕ) (k rest : ℕ) (f : Filling w n part k rest) where
  pub fill_next : (rest / 10 ≡ 0 → ⊥) → Filling w n (set part (k - 1) (48 + rest % 10)) (k - 1) (rest / 10)
  fill_next l =
      let s = f.some in
      let e : suc (k - 1) ≡ k = omega arith in
      fill_turn w n part (k - 1) rest (rw e f) (omega arith)

  abbrev Blank : ℕ → Type 0
  Blank i = take i part ≡ spaces i

  pub fill_done : rest / 10 ≡ 0 → set part (k - 1) (48 + rest % 10) ≡ right w n
  fill_done z =
      let l : rest < 10 = omega arith in
      let digit : rest % 10 ≡ rest = omega arith in
      let s = f.some in
      let size = f.size in
      let within = f.within in
      let e : suc (k - 1) ≡ k = omega arith in
      let blanks : take (suc (k - 1)) part ≡ spaces (suc (k - 1)) = subst Blank (sym e) f.blanks in
      ap (λ (d : ℕ). set part (k - 1) (48 + d)) digit
      ∙ set_split part (k - 1) (48 + rest) (omega arith)
      ∙ rw (replicate_take (k - 1) part blanks)
      (sym (append_assoc (spaces (k - 1)) ((48 + rest) ∷ []) (drop (suc (k - 1)) part))
      ∙ rw (← (right_one (k - 1) rest l), e) f.target)
