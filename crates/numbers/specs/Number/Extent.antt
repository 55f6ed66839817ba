-- How far a scan goes, whatever the bytes are: it takes one byte or more of those there, and leaves the rest.
--     Extent         what n bytes taken and a rest are to the bytes scanned
--     scan_extent    the extent of a number that was read
--     ReadsAt       a number stands at a position of some bytes;  scan_at: it does where a scan found it
-- Not here: what the number is, `Number/Groups.antt`. Assumes nothing.
use Rattle.std.specs.Prelude.{ℕ, zero, suc, ◌+◌, ◌-◌, ◌≤◌, ◌<◌, ◌≡◌, refl, List, [], ◌∷◌, length, drop, ltb, leb, eqb}
use Rattle.std.proofs.Common.{arith, ap, sym, ◌∙◌, subst, length-drop, drop-drop}
use Rattle.numbers.specs.Choice.{cond_cases}
use Rattle.numbers.specs.Number.{Scan, value, truncated, malformed, carry, later, scan_with}

pub record Extent (s : List ℕ) (n : ℕ) (rest : List ℕ) : Type 0 where
  pub some : 1 ≤ n
  pub within : n ≤ length s
  pub left : rest ≡ drop n s

abbrev Extends : List ℕ → Scan → Type 0
Extends s (value v n rest) = Extent s n rest
Extends s truncated = Unit
Extends s malformed = Unit

one : (b : ℕ) (s : List ℕ) → Extent (b ∷ s) 1 s
one b s = record { some = omega arith; within = omega arith; left = refl }

carry_extends : (low b : ℕ) (s : List ℕ) (r : Scan) → Extends s r → Extends (b ∷ s) (carry low r)
unfolding carry
carry_extends low b s (value v n rest) h =
    record { some = omega arith; within = omega (arith, h.within); left = h.left }
carry_extends low b s truncated h = tt
carry_extends low b s malformed h = tt

later_extends : (k top : ℕ) (s : List ℕ) → Extends s (later k top s)
unfolding later
later_extends k top [] = tt
later_extends zero top (b ∷ s) =
    cond_cases (Extends (b ∷ s)) (eqb b 0) malformed _ (λ _. tt)
    (λ _. cond_cases (Extends (b ∷ s)) (leb b top) (value b 1 s) malformed (λ _. one b s) (λ _. tt))
later_extends (suc k) top (b ∷ s) =
    cond_cases (Extends (b ∷ s)) (eqb b 0) malformed _ (λ _. tt)
    (λ _. cond_cases (Extends (b ∷ s)) (ltb b 128) (value b 1 s) (carry (b - 128) (later k top s))
    (λ _. one b s) (λ _. carry_extends (b - 128) b s (later k top s) (later_extends k top s)))

scan_extends : (more top : ℕ) (s : List ℕ) → Extends s (scan_with more top s)
unfolding scan_with
scan_extends more top [] = tt
scan_extends zero top (a ∷ s) =
    cond_cases (Extends (a ∷ s)) (leb a top) (value a 1 s) malformed (λ _. one a s) (λ _. tt)
scan_extends (suc k) top (a ∷ s) =
    cond_cases (Extends (a ∷ s)) (ltb a 128) (value a 1 s) (carry (a - 128) (later k top s))
    (λ _. one a s) (λ _. carry_extends (a - 128) a s (later k top s) (later_extends k top s))

pub scan_extent : (more top : ℕ) (s : List ℕ) (v n : ℕ) (rest : List ℕ)
    → scan_with more top s ≡ value v n rest → Extent s n rest
scan_extent more top s v n rest e = subst (Extends s) e (scan_extends more top s)

-- ---- at a position
-- the number v stands at a position of l, and q is the position after it
pub record ReadsAt (read : List ℕ → Scan) (l : List ℕ) (at v q : ℕ) : Type 0 where
  pub scan : read (drop at l) ≡ value v (q - at) (drop q l)
  pub after : at < q
  pub within : q ≤ length l

-- x is a scan at a position, and found v before the position q
pub record Found (at v q : ℕ) (x : Scan) : Type 0 where
  pub n : ℕ
  pub rest : List ℕ
  pub scan : x ≡ value v n rest
  pub next : q ≡ at + n

scan_path : (v n m : ℕ) (s t : List ℕ) → n ≡ m → s ≡ t → value v n s ≡ value v m t
scan_path v n m s t p q = cc

pub scan_at : (more top : ℕ) (l : List ℕ) (at v q : ℕ) → Found at v q (scan_with more top (drop at l))
    → ReadsAt (scan_with more top) l at v q
scan_at more top l at v q f =
    let k : q ≡ at + f.n = f.next in
    let h = scan_extent more top (drop at l) v f.n f.rest f.scan in
    let some : 1 ≤ f.n = h.some in
    let within : f.n ≤ length l - at = subst (λ (m : ℕ). f.n ≤ m) (length-drop at l) h.within in
    record {
      scan =
          f.scan
          ∙ scan_path _ _ _ _ _ (omega arith) (h.left ∙ drop-drop f.n at l ∙ ap (λ (i : ℕ). drop i l) (sym k));
      after = omega arith;
      within = omega arith;
    }
