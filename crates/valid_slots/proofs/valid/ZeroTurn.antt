-- A turn of `all_zero` and of `past_zeros`: whether the words from i on are zero.
--     zero_next, zero_not, zero_done    a word that is zero, and one that is not; no word is left
--     or_none, zero_eight               no bit of two words is set; none of eight
-- Assumes nothing.
use Prim.Native.Nat.{ℕ, suc, ◌+◌, ◌≤◌, ◌<◌}
use native.Mathlib.Omega.{arith}
use native.Mathlib.Numerals.{add-one}
use mathlib.Core.Path.{◌≡◌, refl, ap, sym, ◌∙◌}
use mathlib.Core.Bool.{true, false, ◌&&◌}
use mathlib.Core.List.{List, ◌∷◌}
use lib.ListN.{length, get_or, drop, drop_of_length-le}
use lib.Seq.{drop-cons}
use lib.Dec.{eqb}
use lib.Bits.{bit_or, or_add_and, and_le_l, and_le_r}
use borrow.Author.Tests.{eq-eqb, ne_eqb}
use Rattle.monitor_spec.specs.Consistent.{every, all_zero}

zero_cons : (x : ℕ) (l : List ℕ) → all_zero (x ∷ l) ≡ (eqb x 0 && all_zero l)
unfolding all_zero every
zero_cons x l = refl

module _ (a : List ℕ) (i : ℕ) where
  zero_at : i < length a → all_zero (drop i a) ≡ (eqb (get_or a i 0) 0 && all_zero (drop (suc i) a))
  zero_at h = ap all_zero (drop-cons a i 0 h) ∙ zero_cons (get_or a i 0) (drop (suc i) a)

  pub zero_next : i < length a → get_or a i 0 ≡ 0 → all_zero (drop (i + 1) a) ≡ all_zero (drop i a)
  zero_next h e =
      ap (λ (k : ℕ). all_zero (drop k a)) (add-one i)
      ∙ sym (zero_at h ∙ ap (◌&& all_zero (drop (suc i) a)) (eq-eqb (get_or a i 0) 0 e))

  pub zero_not : i < length a → (get_or a i 0 ≡ 0 → ⊥) → false ≡ all_zero (drop i a)
  zero_not h e = sym (zero_at h ∙ ap (◌&& all_zero (drop (suc i) a)) (ne_eqb (get_or a i 0) 0 e))

  pub zero_done : length a ≤ i → true ≡ all_zero (drop i a)
  unfolding all_zero every
  zero_done h = sym (ap all_zero (drop_of_length-le a {i = i} h))

or_none : (x y : ℕ) → bit_or x y ≡ 0 → (x ≡ 0) × (y ≡ 0)
or_none x y h =
    (omega (arith, h, or_add_and x y, and_le_r x y), omega (arith, h, or_add_and x y, and_le_l x y))

module _ (a : List ℕ) where
  zero_past : (i j : ℕ) → j ≡ i + 1 → i < length a → get_or a i 0 ≡ 0 → all_zero (drop j a) ≡ all_zero (drop i a)
  zero_past i j q h e = ap (λ (k : ℕ). all_zero (drop k a)) q ∙ zero_next a i h e

  -- the bits of the four words of which i0 is the first
  four : ℕ → ℕ → ℕ → ℕ → ℕ
  four i0 i1 i2 i3 = bit_or (bit_or (bit_or (get_or a i0 0) (get_or a i1 0)) (get_or a i2 0)) (get_or a i3 0)

  zero_four : (i0 i1 i2 i3 i4 : ℕ) → i1 ≡ i0 + 1 → i2 ≡ i0 + 2 → i3 ≡ i0 + 3 → i4 ≡ i0 + 4 → i4 ≤ length a
      → four i0 i1 i2 i3 ≡ 0 → all_zero (drop i4 a) ≡ all_zero (drop i0 a)
  unfolding four
  zero_four i0 i1 i2 i3 i4 q1 q2 q3 q4 h e =
      let (e012, e3) = or_none _ _ e in
      let (e01, e2) = or_none _ _ e012 in
      let (e0, e1) = or_none _ _ e01 in
      zero_past i3 i4 (omega arith) (omega arith) e3
      ∙ zero_past i2 i3 (omega arith) (omega arith) e2
      ∙ zero_past i1 i2 (omega arith) (omega arith) e1
      ∙ zero_past i0 i1 (omega arith) (omega arith) e0

  pub zero_eight : (i : ℕ)
      → bit_or
      (bit_or (bit_or (bit_or (get_or a i 0) (get_or a (i + 1) 0)) (get_or a (i + 2) 0)) (get_or a (i + 3) 0))
      (bit_or (bit_or (bit_or (get_or a (i + 4) 0) (get_or a (i + 5) 0)) (get_or a (i + 6) 0)) (get_or a (i + 7) 0))
      ≡ 0
      → i + 8 ≤ length a → all_zero (drop (i + 8) a) ≡ all_zero (drop i a)
  unfolding four
  zero_eight i e h =
      let (low, high) = or_none _ _ e in
      zero_four (i + 4) (i + 5) (i + 6) (i + 7) (i + 8) (omega arith) (omega arith) (omega arith) (omega arith) h high
      ∙ zero_four i (i + 1) (i + 2) (i + 3) (i + 4) refl refl refl refl (omega arith) low
