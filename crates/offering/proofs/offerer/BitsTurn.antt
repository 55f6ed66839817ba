-- A turn of `bits`: the bits of the first i events, and those of the rest, shifted down by i, are the bits of all.
-- Assumes nothing.
use Prim.Native.Nat.{ℕ, suc, ◌+◌, ◌-◌, ◌*◌, ◌^◌, ◌≤◌, ◌<◌}
use native.Mathlib.Omega.{arith}
use native.Mathlib.Nat.{one-mul, zero-mul, mul-le-mul_left, pow-suc}
use mathlib.Core.Path.{◌≡◌, ap, sym}
use mathlib.Core.List.{List, [], ◌∷◌}
use lib.Pow.{pow_pos, pow_mono}
use Rattle.table.specs.Table.{Table}
use Rattle.residuals.specs.Residual.{Residual, after_all}
use Rattle.monitor_spec.specs.Offer.{bit_of, bits_from, word_bits}
use Rattle.monitor_spec.proofs.Offer.Laws.{bits_small}

-- a bit is the lowest bit, shifted
bit_shifted : (k : ℕ) (l : List Residual) → bit_of k l ≡ bit_of 0 l * 2 ^ k
unfolding bit_of
bit_shifted k [] = sym (zero-mul (2 ^ k))
bit_shifted k (r ∷ l) = sym (one-mul (2 ^ k))

-- with the bits of the i events from b on, those of the rest, shifted down, are the bits of all n
abbrev pub Split : Table → List Residual → ℕ → ℕ → ℕ → ℕ → Type 0
Split t rs b n x i = bits_from t rs b i + x * 2 ^ i ≡ bits_from t rs b n

module _ (t : Table) (rs : List Residual) (b n : ℕ) where
  split_suc : (x k c : ℕ) → c ≡ bit_of 0 (after_all t (b + k) rs) → Split t rs b n x (suc k)
      → Split t rs b n (x * 2 + c) k
  unfolding bits_from
  split_suc x k c e s =
      let f = bit_shifted k (after_all t (b + k) rs) in
      let g : c * 2 ^ k ≡ bit_of 0 (after_all t (b + k) rs) * 2 ^ k = ap (◌* 2 ^ k) e in
      let p : x * 2 ^ suc k ≡ x * (2 ^ k * 2) = ap (x *◌) (pow-suc 2 k) in
      omega arith

  pub split_first : Split t rs b n 0 n
  split_first = omega (arith, zero-mul (2 ^ n))

  pub split_done : (x i : ℕ) → i ≤ 0 → Split t rs b n x i → x ≡ bits_from t rs b n
  unfolding bits_from
  split_done x i h s =
      let z : i ≡ 0 = omega arith in
      let k : 0 + x * 1 ≡ bits_from t rs b n = rw z at s in
      omega arith

  module _ (x i c : ℕ) (h : 0 < i) (s : Split t rs b n x i) (q : c ≡ bit_of 0 (after_all t (b + (i - 1)) rs)) where
    pub split_next : Split t rs b n (x * 2 + c) (i - 1)
    split_next =
        let k : i ≡ suc (i - 1) = omega arith in
        split_suc x (i - 1) c q (rw k at s)

    pub split_fits : n ≤ word_bits → x * 2 + c < 18446744073709551616
    unfolding word_bits
    split_fits few =
        let now = split_next in
        let small = bits_small t rs b n in
        let most : 2 ^ n ≤ 2 ^ 64 = pow_mono few in
        let one = mul-le-mul_left (x * 2 + c) (pow_pos (i - 1)) in
        omega arith
