-- When a scan finds no number: it is truncated just where the bytes of a number begin with those there and go on, and
-- malformed in all other cases. By induction on how many bytes may follow.
--     truncated_out, truncated_in    truncated, exactly on `IncompleteWith`
--     malformed_out, malformed_in    malformed, exactly on `IllWrittenWith`
--     read_truncated, read_malformed, incomplete_read, ill_written_read    the same of 01's own numbers
-- Not here: the numbers that are found, `Number/Groups.antt`. Assumes nothing.
use Rattle.std.specs.Prelude.{ℕ, zero, suc, ◌+◌, ◌-◌, ◌*◌, ◌/◌, ◌%◌, ◌≤◌, ◌<◌, ◌≡◌, refl, List, [], ◌∷◌, ◌++◌, length, ltb, leb, eqb}
use Rattle.std.proofs.Common.{arith, ap, sym, ◌∙◌, subst, length-append, le-ltb, ltb-false, ne_eqb}
use Rattle.std.proofs.Math.Decide.{dec_lt}
use Rattle.numbers.specs.Choice.{cond_cases}
use Rattle.numbers.specs.Number.{Bytes, groups, Scan, value, truncated, malformed, carry, later, scan_with}
use Rattle.numbers.specs.Number.{read_number, IncompleteWith, IllWrittenWith, Incomplete, IllWritten}
use Rattle.numbers.specs.Number.Groups.{groups_short, groups_long, limit_zero, limit_suc, limit_some}
use Rattle.numbers.specs.Number.Groups.{scan_written, scan_is_written}

-- ---- the bytes of a number that go on after the first
record Goes (k v b : ℕ) (s : List ℕ) : Type 0 where
  large : 128 ≤ v
  low : v % 128 + 128 ≡ b
  high : groups k (v / 128) ≡ s

-- one byte has nothing after it
alone : (v b c : ℕ) (s rest : List ℕ) → v ∷ [] ≡ b ∷ (s ++ (c ∷ rest)) → ⊥
alone v b c s rest e =
    let n = ap (λ (l : List ℕ). length l) e in
    let m = length-append s (c ∷ rest) in
    omega arith

goes : (k v b c : ℕ) (s rest : List ℕ) → groups (suc k) v ≡ b ∷ (s ++ (c ∷ rest)) → Goes k v b (s ++ (c ∷ rest))
goes k v b c s rest e = by_size (dec_lt v 128)
  where
    by_size : Dec (v < 128) → Goes k v b (s ++ (c ∷ rest))
    by_size (yes l) = absurd (alone v b c s rest (sym (groups_short k v l) ∙ e))
    by_size (no g) =
        let l : 128 ≤ v = omega arith in
        let h = sym (groups_long k v l) ∙ e in
        record { large = l; low = cc; high = cc }

-- ---- truncated, after a first group
record Later (k top : ℕ) (s : List ℕ) : Type 0 where
  begun : IncompleteWith k top s
  some : 1 ≤ begun.number

cons_path : (a b : ℕ) (s t : List ℕ) → a ≡ b → s ≡ t → a ∷ s ≡ b ∷ t
cons_path a b s t p q = cc

-- a group of 128 or more before a beginning
longer : (k top b : ℕ) (s : List ℕ) → 128 ≤ b → b < 256 → Later k top s → Later (suc k) top (b ∷ s)
longer k top b s l u h =
    let x = h.begun in
    let v = x.number in
    let p : 1 ≤ v = h.some in
    let low : (b - 128 + v * 128) % 128 + 128 ≡ b = omega arith in
    let high : (b - 128 + v * 128) / 128 ≡ v = omega arith in
    record {
      begun =
          record {
            number = b - 128 + v * 128;
            next = x.next;
            rest = x.rest;
            small = omega (arith, limit_suc k top, x.small);
            whole =
                groups_long k (b - 128 + v * 128) (omega arith)
                ∙ cons_path _ _ _ _ low (ap (groups k) high ∙ x.whole);
          };
      some = omega arith;
    }

-- and its rest
shorter : (k top b : ℕ) (s : List ℕ) → IncompleteWith (suc k) top (b ∷ s) → (128 ≤ b) × Later k top s
shorter k top b s x =
    let v = x.number in
    let g = goes k v b x.next s x.rest x.whole in
    let l : 128 ≤ v = g.large in
    let e : v % 128 + 128 ≡ b = g.low in (
      omega arith,
      record {
        begun =
            record {
              number = v / 128;
              next = x.next;
              rest = x.rest;
              small = omega (arith, limit_suc k top, x.small);
              whole = g.high;
            };
        some = omega arith;
      },
    )

-- what is known of a scan that is truncated
abbrev WhenCut : Type 0 → Scan → Type 0
WhenCut X (value v n s) = Unit
WhenCut X truncated = X
WhenCut X malformed = Unit

carry_cut : (X Y : Type 0) (low : ℕ) (r : Scan) → (X → Y) → WhenCut X r → WhenCut Y (carry low r)
unfolding carry
carry_cut X Y low (value v n s) f h = tt
carry_cut X Y low truncated f h = f h
carry_cut X Y low malformed f h = tt

one_begins : (k top : ℕ) → 1 ≤ top → Later k top []
unfolding groups
one_begins zero top p =
    record {
      begun = record { number = 1; next = 1; rest = []; small = omega (arith, limit_zero top); whole = refl };
      some = omega arith;
    }
one_begins (suc k) top p =
    record {
      begun =
          record {
            number = 1;
            next = 1;
            rest = [];
            small = omega (arith, limit_suc k top, limit_some k top);
            whole = refl;
          };
      some = omega arith;
    }

later_out : (k top : ℕ) (s : List ℕ) → 1 ≤ top → Bytes s → WhenCut (Later k top s) (later k top s)
unfolding later
later_out k top [] p w = one_begins k top p
later_out zero top (b ∷ s) p w =
    cond_cases (WhenCut (Later zero top (b ∷ s))) (eqb b 0) malformed _ (λ _. tt)
    (λ _. cond_cases (WhenCut (Later zero top (b ∷ s))) (leb b top) (value b 1 s) malformed (λ _. tt) (λ _. tt))
later_out (suc k) top (b ∷ s) p w =
    cond_cases (WhenCut (Later (suc k) top (b ∷ s))) (eqb b 0) malformed _ (λ _. tt)
    (λ _. cond_cases (WhenCut (Later (suc k) top (b ∷ s))) (ltb b 128) (value b 1 s) (carry (b - 128) (later k top s))
    (λ _. tt)
    (λ l. carry_cut _ _ (b - 128) (later k top s) (longer k top b s (ltb-false b 128 l) w.0)
    (later_out k top s p w.1)))

later_in : (k top : ℕ) (s : List ℕ) → Later k top s → later k top s ≡ truncated
unfolding later groups
later_in k top [] h = refl
later_in zero top (b ∷ s) h =
    let x = h.begun in absurd (alone x.number b x.next s x.rest x.whole)
later_in (suc k) top (b ∷ s) h =
    let r = shorter k top b s h.begun in
    let l : 128 ≤ b = r.0 in
    let nz : (b ≡ 0 → ⊥) = λ e. omega arith in
    simp (ne_eqb _ _ nz, le-ltb _ _ l, later_in k top s r.1) (unfold carry in refl)

-- ---- truncated
scan_cut : (more top : ℕ) (s : List ℕ) → 1 ≤ top → Bytes s → WhenCut (IncompleteWith more top s) (scan_with more top s)
unfolding scan_with
scan_cut zero top [] p w = (one_begins zero top p).begun
scan_cut (suc k) top [] p w = (one_begins (suc k) top p).begun
scan_cut zero top (a ∷ s) p w =
    cond_cases (WhenCut (IncompleteWith zero top (a ∷ s))) (leb a top) (value a 1 s) malformed (λ _. tt) (λ _. tt)
scan_cut (suc k) top (a ∷ s) p w =
    cond_cases (WhenCut (IncompleteWith (suc k) top (a ∷ s))) (ltb a 128) (value a 1 s)
    (carry (a - 128) (later k top s)) (λ _. tt)
    (λ l. carry_cut _ _ (a - 128) (later k top s) (λ h. (longer k top a s (ltb-false a 128 l) w.0 h).begun)
    (later_out k top s p w.1))

pub truncated_out : (more top : ℕ) (s : List ℕ) → 1 ≤ top → Bytes s
    → scan_with more top s ≡ truncated → IncompleteWith more top s
truncated_out more top s p w e = subst (WhenCut (IncompleteWith more top s)) e (scan_cut more top s p w)

pub truncated_in : (more top : ℕ) (s : List ℕ) → IncompleteWith more top s → scan_with more top s ≡ truncated
unfolding scan_with groups
truncated_in more top [] x = refl
truncated_in zero top (a ∷ s) x = absurd (alone x.number a x.next s x.rest x.whole)
truncated_in (suc k) top (a ∷ s) x =
    let r = shorter k top a s x in
    let l : 128 ≤ a = r.0 in
    simp (le-ltb _ _ l, later_in k top s r.1) (unfold carry in refl)

-- ---- malformed
pub malformed_out : (more top : ℕ) (s : List ℕ) → scan_with more top s ≡ malformed → IllWrittenWith more top s
malformed_out more top s e =
    record {
      no_number =
          λ v rest l h.
          let q = sym (ap (scan_with more top) h ∙ scan_written more top v rest l) ∙ e in
          let z : ◌≡◌ {A = ℕ} 0 1 = cc in
          omega arith;
      no_beginning = λ x. let q = sym (truncated_in more top s x) ∙ e in let z : ◌≡◌ {A = ℕ} 0 1 = cc in omega arith;
    }

pub malformed_in : (more top : ℕ) (s : List ℕ) → 1 ≤ top → Bytes s
    → IllWrittenWith more top s → scan_with more top s ≡ malformed
malformed_in more top s p w x = by_scan (scan_with more top s) refl
  where
    by_scan : (r : Scan) → scan_with more top s ≡ r → scan_with more top s ≡ malformed
    by_scan (value v n rest) e =
        let h = scan_is_written more top s v n rest w e in absurd (x.no_number v rest h.small h.whole)
    by_scan truncated e = absurd (x.no_beginning (truncated_out more top s p w e))
    by_scan malformed e = e

-- ---- at 2 and 3
module _ (s : List ℕ) where
  pub read_truncated : Bytes s → read_number s ≡ truncated → Incomplete s
  unfolding read_number
  read_truncated w e = truncated_out 2 3 s (omega arith) w e

  pub incomplete_read : Incomplete s → read_number s ≡ truncated
  unfolding read_number
  incomplete_read x = truncated_in 2 3 s x

  pub read_malformed : read_number s ≡ malformed → IllWritten s
  unfolding read_number
  read_malformed e = malformed_out 2 3 s e

  pub ill_written_read : Bytes s → IllWritten s → read_number s ≡ malformed
  unfolding read_number
  ill_written_read w x = malformed_in 2 3 s (omega arith) w x
