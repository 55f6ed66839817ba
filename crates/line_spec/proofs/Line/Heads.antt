-- The head of an input that goes on: what its beginning decides, whatever follows.
--     value_more, malformed_more     a length number that was read, or that is none
--     truncated_short                bytes that end within a number are two at most
--     widen_head, Fixed              a head with more events; a head that stays: any but 3
--     head_more, long_fixed          a head that stays;  one of 16,387 bytes does
--     parts_more                     a table that is there, stays; what follows belongs to the events
--     over_more, loose_more          a length number over 16,384 stays; one that is not written as it should be
-- Assumes nothing.
use Rattle.std.specs.Prelude.{ℕ, zero, suc, ◌-◌, ◌≤◌, ◌≡◌, refl, Bool, true, false, cond, List, [], ◌∷◌, ◌++◌, length, ltb, leb, eqb}
use Rattle.std.proofs.Common.{arith, ap₂, sym, subst, ◌∙◌, length-append, length-drop, ltb-true, ltb-false}
use Rattle.std.proofs.Math.Path.{ap}
use Rattle.std.proofs.lemmas.List.{take-append-le, drop-append-le}
use Rattle.numbers.specs.Choice.{cond_cases}
use Rattle.numbers.specs.Number.{Scan, value, truncated, malformed, carry, later, scan_with, read_number}
use Rattle.numbers.specs.Number.Extent.{scan_extent}
use Rattle.line_spec.specs.Line.{Head, parts, wrong, cut, head_by, head_of}
use Rattle.line_spec.proofs.Line.Laws.{cut_over, cut_missing, cut_there}

-- ---- the length number

-- what is scanned, with more behind it
unfoldable widen : Scan → List ℕ → Scan
widen (value v n s) r = value v n (s ++ r)
widen truncated r = truncated
widen malformed r = malformed

-- a scan that is not cut short
abbrev Whole : Scan → Type 0
Whole (value v n s) = Unit
Whole truncated = ⊥
Whole malformed = Unit

carry_widen : (low : ℕ) (x : Scan) (r : List ℕ) → carry low (widen x r) ≡ widen (carry low x) r
unfolding carry widen
carry_widen low (value v n s) r = refl
carry_widen low truncated r = refl
carry_widen low malformed r = refl

carry_whole : (low : ℕ) (x : Scan) → Whole (carry low x) → Whole x
unfolding carry
carry_whole low (value v n s) h = tt
carry_whole low truncated h = h
carry_whole low malformed h = tt

later_widen : (k top : ℕ) (s r : List ℕ) → Whole (later k top s) → later k top (s ++ r) ≡ widen (later k top s) r
unfolding later widen
later_widen k top [] r h = absurd h
later_widen zero top (b ∷ s) r h = by (eqb b 0) (leb b top)
  where
    by : (x y : Bool) → cond x malformed (cond y (value b 1 (s ++ r)) malformed)
        ≡ widen (cond x malformed (cond y (value b 1 s) malformed)) r
    by true y = refl
    by false true = refl
    by false false = refl
later_widen (suc k) top (b ∷ s) r h = by (eqb b 0) (ltb b 128) (later_widen k top s r) h
  where
    by : (x y : Bool) → (Whole (later k top s) → later k top (s ++ r) ≡ widen (later k top s) r)
        → Whole (cond x malformed (cond y (value b 1 s) (carry (b - 128) (later k top s))))
        → cond x malformed (cond y (value b 1 (s ++ r)) (carry (b - 128) (later k top (s ++ r))))
        ≡ widen (cond x malformed (cond y (value b 1 s) (carry (b - 128) (later k top s)))) r
    by true y ih w = refl
    by false true ih w = refl
    by false false ih w =
        ap (carry (b - 128)) (ih (carry_whole (b - 128) (later k top s) w))
        ∙ carry_widen (b - 128) (later k top s) r

scan_widen : (k top : ℕ) (s r : List ℕ) → Whole (scan_with (suc k) top s)
    → scan_with (suc k) top (s ++ r) ≡ widen (scan_with (suc k) top s) r
unfolding scan_with widen
scan_widen k top [] r h = absurd h
scan_widen k top (a ∷ s) r h = by (ltb a 128) h
  where
    by : (x : Bool) → Whole (cond x (value a 1 s) (carry (a - 128) (later k top s)))
        → cond x (value a 1 (s ++ r)) (carry (a - 128) (later k top (s ++ r)))
        ≡ widen (cond x (value a 1 s) (carry (a - 128) (later k top s))) r
    by true w = refl
    by false w =
        ap (carry (a - 128)) (later_widen k top s r (carry_whole (a - 128) (later k top s) w))
        ∙ carry_widen (a - 128) (later k top s) r

-- a number that was read is read, whatever follows
pub value_more : (s r : List ℕ) (v n : ℕ) (rest : List ℕ) → read_number s ≡ value v n rest
    → read_number (s ++ r) ≡ value v n (rest ++ r)
unfolding read_number widen
value_more s r v n rest e = scan_widen 1 3 s r (subst Whole (sym e) tt) ∙ ap (λ (x : Scan). widen x r) e

pub malformed_more : (s r : List ℕ) → read_number s ≡ malformed → read_number (s ++ r) ≡ malformed
unfolding read_number widen
malformed_more s r e = scan_widen 1 3 s r (subst Whole (sym e) tt) ∙ ap (λ (x : Scan). widen x r) e

-- ---- how many bytes it takes

-- where k bytes may follow the first
abbrev Few : ℕ → List ℕ → Scan → Type 0
Few k s (value v n r) = n ≤ suc k
Few k s truncated = length s ≤ k
Few k s malformed = Unit

carry_few : (low k b : ℕ) (s : List ℕ) (x : Scan) → Few k s x → Few (suc k) (b ∷ s) (carry low x)
unfolding carry
carry_few low k b s (value v n r) h = omega arith
carry_few low k b s truncated h = omega arith
carry_few low k b s malformed h = tt

later_few : (k top : ℕ) (s : List ℕ) → Few k s (later k top s)
unfolding later
later_few k top [] = omega arith
later_few zero top (b ∷ s) =
    cond_cases (Few 0 (b ∷ s)) (eqb b 0) malformed _ (λ _. tt)
    (λ _. cond_cases (Few 0 (b ∷ s)) (leb b top) (value b 1 s) malformed (λ _. omega arith) (λ _. tt))
later_few (suc k) top (b ∷ s) =
    cond_cases (Few (suc k) (b ∷ s)) (eqb b 0) malformed _ (λ _. tt)
    (λ _. cond_cases (Few (suc k) (b ∷ s)) (ltb b 128) (value b 1 s) (carry (b - 128) (later k top s))
    (λ _. omega arith) (λ _. carry_few (b - 128) k b s (later k top s) (later_few k top s)))

scan_few : (k top : ℕ) (s : List ℕ) → Few (suc k) s (scan_with (suc k) top s)
unfolding scan_with
scan_few k top [] = omega arith
scan_few k top (a ∷ s) =
    cond_cases (Few (suc k) (a ∷ s)) (ltb a 128) (value a 1 s) (carry (a - 128) (later k top s))
    (λ _. omega arith) (λ _. carry_few (a - 128) k a s (later k top s) (later_few k top s))

value_short : (s : List ℕ) (v n : ℕ) (rest : List ℕ) → read_number s ≡ value v n rest → n ≤ 3
unfolding read_number
value_short s v n rest e = subst (Few 2 s) e (scan_few 1 3 s)

pub truncated_short : (s : List ℕ) → read_number s ≡ truncated → length s ≤ 2
unfolding read_number
truncated_short s e = subst (Few 2 s) e (scan_few 1 3 s)

-- ---- the head

unfoldable pub widen_head : Head → List ℕ → Head
widen_head (parts bs es) r = parts bs (es ++ r)
widen_head (wrong n p) r = wrong n p

-- only 3, for an input that ended within its length number or its table, could turn out otherwise
abbrev pub Fixed : Head → Type 0
Fixed (parts bs es) = Unit
Fixed (wrong n p) = n ≡ 3 → ⊥

cut_more : (v : ℕ) (s r : List ℕ) → Fixed (cut v s) → cut v (s ++ r) ≡ widen_head (cut v s) r
unfolding widen_head
cut_more v s r h = by (ltb 16384 v) refl (ltb (length s) v) refl
  where
    by : (x : Bool) → ltb 16384 v ≡ x → (y : Bool) → ltb (length s) v ≡ y → cut v (s ++ r) ≡ widen_head (cut v s) r
    by true e y f =
        cut_over v (s ++ r) (ltb-true _ _ e) ∙ sym (ap (λ (x : Head). widen_head x r) (cut_over v s (ltb-true _ _ e)))
    by false e true f = absurd (subst Fixed (cut_missing v s (ltb-false _ _ e) (ltb-true _ _ f)) h refl)
    by false e false f =
        let few : v ≤ 16384 = ltb-false _ _ e in
        let i : v ≤ length s = ltb-false _ _ f in
        let m = length-append s r in
        cut_there v (s ++ r) few (omega arith) ∙ ap₂ parts (take-append-le v s r i) (drop-append-le v s r i)
        ∙ sym (ap (λ (x : Head). widen_head x r) (cut_there v s few i))

pub head_more : (s r : List ℕ) → Fixed (head_of s) → head_of (s ++ r) ≡ widen_head (head_of s) r
unfolding head_of head_by widen_head
head_more s r h = by (read_number s) refl
  where
    by : (x : Scan) → read_number s ≡ x → head_of (s ++ r) ≡ widen_head (head_of s) r
    by (value v n rest) e =
        ap head_by (value_more s r v n rest e) ∙ cut_more v rest r (subst Fixed (ap head_by e) h)
        ∙ sym (ap (λ (y : Scan). widen_head (head_by y) r) e)
    by truncated e = absurd (subst Fixed (ap head_by e) h refl)
    by malformed e = ap head_by (malformed_more s r e) ∙ sym (ap (λ (y : Scan). widen_head (head_by y) r) e)

module _ (s r : List ℕ) where
  -- "a number, that many table bytes, then events"
  pub parts_more : (bs es : List ℕ) → head_of s ≡ parts bs es → head_of (s ++ r) ≡ parts bs (es ++ r)
  unfolding widen_head
  parts_more bs es h = head_more s r (subst Fixed (sym h) tt) ∙ ap (λ (x : Head). widen_head x r) h

  wrong_more : (n p : ℕ) → (n ≡ 3 → ⊥) → head_of s ≡ wrong n p → head_of (s ++ r) ≡ wrong n p
  unfolding widen_head
  wrong_more n p i h = head_more s r (subst Fixed (sym h) i) ∙ ap (λ (x : Head). widen_head x r) h

  -- "a length over 16,384 is 2"
  pub over_more : head_of s ≡ wrong 2 0 → head_of (s ++ r) ≡ wrong 2 0
  over_more = wrong_more 2 0 (λ z. omega arith)

  -- "The length number uses 3 and 4 with place 0"
  pub loose_more : head_of s ≡ wrong 4 0 → head_of (s ++ r) ≡ wrong 4 0
  loose_more = wrong_more 4 0 (λ z. omega arith)

-- ---- a front that has the whole table

long_cut : (v : ℕ) (s : List ℕ) → 16384 ≤ length s → Fixed (cut v s)
long_cut v s h = by (ltb 16384 v) refl (ltb (length s) v) refl
  where
    by : (x : Bool) → ltb 16384 v ≡ x → (y : Bool) → ltb (length s) v ≡ y → Fixed (cut v s)
    by true e y f = subst Fixed (sym (cut_over v s (ltb-true _ _ e))) (λ z. omega arith)
    by false e true f = absurd (omega (arith, ltb-false 16384 v e, ltb-true (length s) v f))
    by false e false f = subst Fixed (sym (cut_there v s (ltb-false _ _ e) (ltb-false _ _ f))) tt

-- the length number has three bytes at most, the longest table 16,384
pub long_fixed : (s : List ℕ) → 16387 ≤ length s → Fixed (head_of s)
unfolding head_of head_by read_number
long_fixed s h = by (read_number s) refl
  where
    by : (x : Scan) → read_number s ≡ x → Fixed (head_of s)
    by (value v n rest) e =
        let x = scan_extent 2 3 s v n rest e in
        let few = value_short s v n rest e in
        let m : 16384 ≤ length rest = omega (arith, x.within, ap length x.left, length-drop n s) in
        subst Fixed (sym (ap head_by e)) (long_cut v rest m)
    by truncated e = absurd (omega (arith, truncated_short s e))
    by malformed e = subst Fixed (sym (ap head_by e)) (λ z. omega arith)
