-- Bytes that end within a number.
--     truncated_last     where a byte more ends the number, nothing is left
-- Assumes nothing.
use Rattle.std.specs.Prelude.{ℕ, zero, suc, ◌-◌, ◌≡◌, refl, Bool, true, false, cond, List, [], ◌∷◌, ◌++◌, ltb, leb, eqb}
use Rattle.std.proofs.Common.{arith, subst}
use Rattle.numbers.specs.Choice.{cond_cases}
use Rattle.numbers.specs.Number.{Scan, value, truncated, malformed, carry, later, scan_with, read_number}

abbrev Last : Scan → Type 0
Last (value v n r) = r ≡ []
Last truncated = Unit
Last malformed = Unit

carry_last : (low : ℕ) (x : Scan) → Last x → Last (carry low x)
unfolding carry
carry_last low (value v n r) h = h
carry_last low truncated h = tt
carry_last low malformed h = tt

-- the carry of a scan is truncated only where that is
carry_truncated : (low : ℕ) (x : Scan) → carry low x ≡ truncated → x ≡ truncated
unfolding carry
carry_truncated low (value v n r) e = absurd (let z : ◌≡◌ {A = ℕ} 0 1 = cc in omega arith)
carry_truncated low truncated e = refl
carry_truncated low malformed e = absurd (let z : ◌≡◌ {A = ℕ} 0 1 = cc in omega arith)

later_one : (k top x : ℕ) → Last (later k top (x ∷ []))
unfolding later
later_one zero top x =
    cond_cases Last (eqb x 0) malformed _ (λ _. tt)
    (λ _. cond_cases Last (leb x top) (value x 1 []) malformed (λ _. refl) (λ _. tt))
later_one (suc k) top x =
    cond_cases Last (eqb x 0) malformed _ (λ _. tt)
    (λ _. cond_cases Last (ltb x 128) (value x 1 []) (carry (x - 128) (later k top [])) (λ _. refl)
    (λ _. carry_last (x - 128) (later k top []) tt))

later_last : (k top x : ℕ) (s : List ℕ) → later k top s ≡ truncated → Last (later k top (s ++ (x ∷ [])))
unfolding later
later_last k top x [] e = later_one k top x
later_last zero top x (b ∷ s) e = by (eqb b 0) (leb b top) e
  where
    by : (p q : Bool) → cond p malformed (cond q (value b 1 s) malformed) ≡ truncated
        → Last (cond p malformed (cond q (value b 1 (s ++ (x ∷ []))) malformed))
    by true q h = tt
    by false true h = absurd (let z : ◌≡◌ {A = ℕ} 0 1 = cc in omega arith)
    by false false h = tt
later_last (suc k) top x (b ∷ s) e = by (eqb b 0) (ltb b 128) (later_last k top x s) e
  where
    by : (p q : Bool) → (later k top s ≡ truncated → Last (later k top (s ++ (x ∷ []))))
        → cond p malformed (cond q (value b 1 s) (carry (b - 128) (later k top s))) ≡ truncated
        → Last (cond p malformed (cond q (value b 1 (s ++ (x ∷ []))) (carry (b - 128) (later k top (s ++ (x ∷ []))))))
    by true q ih h = tt
    by false true ih h = absurd (let z : ◌≡◌ {A = ℕ} 0 1 = cc in omega arith)
    by false false ih h =
        carry_last (b - 128) (later k top (s ++ (x ∷ []))) (ih (carry_truncated (b - 128) (later k top s) h))

scan_last : (k top x : ℕ) (s : List ℕ) → scan_with (suc k) top s ≡ truncated
    → Last (scan_with (suc k) top (s ++ (x ∷ [])))
unfolding scan_with later
scan_last k top x [] e =
    cond_cases Last (ltb x 128) (value x 1 []) (carry (x - 128) truncated) (λ _. refl)
    (λ _. carry_last (x - 128) truncated tt)
scan_last k top x (a ∷ s) e = by (ltb a 128) e
  where
    by : (q : Bool) → cond q (value a 1 s) (carry (a - 128) (later k top s)) ≡ truncated
        → Last (cond q (value a 1 (s ++ (x ∷ []))) (carry (a - 128) (later k top (s ++ (x ∷ [])))))
    by true h = absurd (let z : ◌≡◌ {A = ℕ} 0 1 = cc in omega arith)
    by false h =
        carry_last (a - 128) (later k top (s ++ (x ∷ [])))
        (later_last k top x s (carry_truncated (a - 128) (later k top s) h))

pub truncated_last : (s : List ℕ) (x v n : ℕ) (rest : List ℕ) → read_number s ≡ truncated
    → read_number (s ++ (x ∷ [])) ≡ value v n rest → rest ≡ []
unfolding read_number
truncated_last s x v n rest e f = subst Last f (scan_last 1 3 x s e)
