-- The numbers of a lot book at a position: one law for each way out of `later` and `read`, and what callers need.
--     cut, zero_byte, large, last, short, more, lost the ways out of `later`;  value_small: what it found is small
--     none, one, several, broken                     those of `read`
--     limit_8, limit_under                           bounds of what a number's later groups give
--     number_stands                                  a number that was read, as a scan of the bytes
--     NoNumber, number_unread                        no number was read
-- Assumes nothing.
use Prim.Native.Nat.{ℕ, zero, suc, ◌+◌, ◌-◌, ◌*◌, ◌≤◌, ◌<◌}
use native.Mathlib.Omega.{arith}
use Rattle.std.specs.Prelude.{◌≡◌, List, length, get_or, drop, Option, Some, None}
use Rattle.std.proofs.Math.Path.{refl, sym, ap}
use Rattle.std.proofs.Common.{◌∙◌, drop_of_length-le}
use borrow.Author.Tests.{le-ltb, lt-ltb, le-leb, lt-leb, eq-eqb, ne_eqb}
use Rattle.numbers.specs.Number.{Scan, value, truncated, malformed, carry, later, scan_with, limit_of}
use Rattle.numbers.specs.Number.Groups.{limit_zero, limit_suc, limit_some}
use Rattle.numbers.specs.Number.Extent.{Found, ReadsAt, scan_at}
use Rattle.numbers.specs.Position.Reads.{drop_head}
use Rattle.lot_book.specs.Number.{scan_number, number_found, number_at, groups_at, Grouped}

value_path : (v w p q : ℕ) → v ≡ w → p ≡ q → ◌≡◌ {A = Option (ℕ × ℕ)} (Some (v, p)) (Some (w, q))
value_path v w p q e f = cc

-- ---- bounds
limit_grows : (d k : ℕ) → limit_of k 1 ≤ limit_of (k + d) 1
limit_grows zero k = let z : k + 0 ≡ k = omega arith in rw z (omega arith)
limit_grows (suc d) k =
    let z : k + suc d ≡ suc (k + d) = omega arith in
    rw z (omega (arith, limit_grows d k, limit_suc (k + d) 1))

pub limit_8 : limit_of 8 1 ≡ 144115188075855872
unfolding limit_of
limit_8 = refl

pub limit_under : (k : ℕ) → k ≤ 8 → limit_of k 1 ≤ 144115188075855872
limit_under k h =
    let z : k + (8 - k) ≡ 8 = omega arith in
    omega (arith, limit_8, rw z at (limit_grows (8 - k) k))

pub value_small : (k v q : ℕ) (s : List ℕ) (at : ℕ) → Grouped k s at (Some (v, q)) → v < limit_of k 1
value_small k v q s at g = g.small

-- ---- the equations of groups_at
-- a low group before what was found after it
after : ℕ → Option (ℕ × ℕ) → Option (ℕ × ℕ)
after low (Some x) = Some (low + x.0 * 128, x.1)
after low None = None

found_carry : (at low : ℕ) (x : Scan) → number_found at (carry low x) ≡ after low (number_found (at + 1) x)
unfolding number_found carry after
found_carry at low (value v n rest) = value_path _ _ _ _ refl (omega arith)
found_carry at low truncated = refl
found_carry at low malformed = refl

module _ (s : List ℕ) (at : ℕ) where
  pub cut : (k : ℕ) → length s ≤ at → Grouped k s at None
  unfolding groups_at later number_found
  cut k h = record { answer = rw (drop_of_length-le s h) refl; small = tt }

  zero_at : (k : ℕ) → at < length s → get_or s at 0 ≡ 0 → None ≡ groups_at k s at
  unfolding groups_at later number_found
  zero_at zero h z = rw (drop_head s at h) (simp (eq-eqb _ _ z))
  zero_at (suc k) h z = rw (drop_head s at h) (simp (eq-eqb _ _ z))

  pub zero_byte : (k : ℕ) → at < length s → get_or s at 0 ≡ 0 → Grouped k s at None
  zero_byte k h z = record { answer = zero_at k h z; small = tt }

  -- the tenth byte
  large_at : at < length s → 1 < get_or s at 0 → None ≡ groups_at 0 s at
  unfolding groups_at later number_found
  large_at h l =
      let nz : (get_or s at 0 ≡ 0 → ⊥) = λ e. omega arith in
      rw (drop_head s at h) (simp (ne_eqb _ _ nz, lt-leb _ _ l))

  pub large : (k : ℕ) → k ≡ 0 → at < length s → 1 < get_or s at 0 → Grouped k s at None
  large k z h l = rw z (record { answer = large_at h l; small = tt })

  last_at : at < length s → (get_or s at 0 ≡ 0 → ⊥) → get_or s at 0 ≤ 1 → Some (get_or s at 0, at + 1) ≡ groups_at 0 s at
  unfolding groups_at later number_found
  last_at h nz l = rw (drop_head s at h) (simp (ne_eqb _ _ nz, le-leb _ _ l))

  pub last : (k b : ℕ) → k ≡ 0 → b ≡ get_or s at 0 → at < length s → (b ≡ 0 → ⊥) → b ≤ 1
      → Grouped k s at (Some (b, at + 1))
  last k b z e h nz l =
      rw (z, e) (record { answer = last_at h (rw e at nz) (rw e at l); small = omega (arith, limit_zero 1) })

  short_at : (k : ℕ) → at < length s → (get_or s at 0 ≡ 0 → ⊥) → get_or s at 0 < 128
      → Some (get_or s at 0, at + 1) ≡ groups_at (suc k) s at
  unfolding groups_at later number_found
  short_at k h nz l = rw (drop_head s at h) (simp (ne_eqb _ _ nz, lt-ltb _ _ l))

  short_of : (k j b : ℕ) → k ≡ suc j → b ≡ get_or s at 0 → at < length s → (b ≡ 0 → ⊥) → b < 128
      → Grouped k s at (Some (b, at + 1))
  short_of k j b z e h nz l =
      rw (z, e)
      (record {
        answer = short_at j h (rw e at nz) (rw e at l);
        small = omega (arith, limit_suc j 1, limit_some j 1);
      })

  pub short : (k b : ℕ) → 1 ≤ k → b ≡ get_or s at 0 → at < length s → (b ≡ 0 → ⊥) → b < 128
      → Grouped k s at (Some (b, at + 1))
  short k b p = short_of k (k - 1) b (omega arith)

  more_at : (k : ℕ) → at < length s → 128 ≤ get_or s at 0
      → groups_at (suc k) s at ≡ after (get_or s at 0 - 128) (groups_at k s (at + 1))
  unfolding groups_at later
  more_at k h l =
      let nz : (get_or s at 0 ≡ 0 → ⊥) = λ e. omega arith in
      rw (drop_head s at h) (simp (ne_eqb _ _ nz, le-ltb _ _ l) (found_carry at _ _))

  more_of : (k j b v q : ℕ) → k ≡ suc j → b ≡ get_or s at 0 → at < length s → 128 ≤ b → b < 256
      → Grouped j s (at + 1) (Some (v, q)) → Grouped k s at (Some (b - 128 + v * 128, q))
  unfolding after
  more_of k j b v q z e h l u g =
      let small = g.small in
      rw (z, e)
      (record {
        answer = sym (more_at j h (rw e at l) ∙ rw (← g.answer) refl);
        small = omega (arith, limit_suc j 1);
      })

  pub more : (k b v q : ℕ) → 1 ≤ k → b ≡ get_or s at 0 → at < length s → 128 ≤ b → b < 256
      → Grouped (k - 1) s (at + 1) (Some (v, q)) → Grouped k s at (Some (b - 128 + v * 128, q))
  more k b v q p = more_of k (k - 1) b v q (omega arith)

  lost_of : (k j : ℕ) → k ≡ suc j → at < length s → 128 ≤ get_or s at 0
      → Grouped j s (at + 1) None → Grouped k s at None
  unfolding after
  lost_of k j z h l g =
      rw z (record { answer = sym (more_at j h l ∙ rw (← g.answer) refl); small = tt })

  pub lost : (k : ℕ) → 1 ≤ k → at < length s → 128 ≤ get_or s at 0
      → Grouped (k - 1) s (at + 1) None → Grouped k s at None
  lost k p = lost_of k (k - 1) (omega arith)

  -- ---- the equations of number_at
  pub none : length s ≤ at → None ≡ number_at s at
  unfolding number_at scan_with number_found
  none h = rw (drop_of_length-le s h) refl

  pub one : (a : ℕ) → a ≡ get_or s at 0 → at < length s → a < 128 → Some (a, at + 1) ≡ number_at s at
  unfolding number_at scan_with number_found
  one a e h l = rw (drop_head s at h, ← e) (simp (lt-ltb _ _ l))

  long : at < length s → 128 ≤ get_or s at 0 → number_at s at ≡ after (get_or s at 0 - 128) (groups_at 8 s (at + 1))
  unfolding number_at scan_with groups_at
  long h l = rw (drop_head s at h) (simp (le-ltb _ _ l) (found_carry at _ _))

  pub several : (a v q : ℕ) → a ≡ get_or s at 0 → at < length s → 128 ≤ a
      → Grouped 8 s (at + 1) (Some (v, q)) → Some (a - 128 + v * 128, q) ≡ number_at s at
  unfolding after
  several a v q e h l g = rw e (sym (long h (rw e at l) ∙ rw (← g.answer) refl))

  pub broken : at < length s → 128 ≤ get_or s at 0 → Grouped 8 s (at + 1) None → None ≡ number_at s at
  unfolding after
  broken h l g = sym (long h l ∙ rw (← g.answer) refl)

-- ---- for callers
value_found : (at v q : ℕ) (x : Scan) → Some (v, q) ≡ number_found at x → Found at v q x
unfolding number_found
value_found at v q (value w n rest) e =
    let p : ◌≡◌ {A = ℕ × ℕ} (v, q) (w, at + n) = cc in
    let a : v ≡ w = ap (λ (x : ℕ × ℕ). x.0) p in
    record { n = n; rest = rest; scan = cc; next = ap (λ (x : ℕ × ℕ). x.1) p }
value_found at v q truncated e = let z : ◌≡◌ {A = ℕ} 0 1 = cc in absurd (omega arith)
value_found at v q malformed e = let z : ◌≡◌ {A = ℕ} 0 1 = cc in absurd (omega arith)

pub number_stands : (s : List ℕ) (at v q : ℕ) → Some (v, q) ≡ number_at s at → ReadsAt scan_number s at v q
unfolding number_at
number_stands s at v q e = scan_at 9 1 s at v q (value_found at v q (scan_number (drop at s)) e)

-- no number stands at the head of the bytes
pub data NoNumber : Scan → Type 0 where
  cut_short : NoNumber truncated
  ill_written : NoNumber malformed

unread_found : (at : ℕ) (x : Scan) → None ≡ number_found at x → NoNumber x
unfolding number_found
unread_found at (value w n rest) e = let z : ◌≡◌ {A = ℕ} 0 1 = cc in absurd (omega arith)
unread_found at truncated e = cut_short
unread_found at malformed e = ill_written

pub number_unread : (s : List ℕ) (at : ℕ) → None ≡ number_at s at → NoNumber (scan_number (drop at s))
unfolding number_at
number_unread s at e = unread_found at (scan_number (drop at s)) e
