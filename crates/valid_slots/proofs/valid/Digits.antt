-- The four events of a memory, one after the other: what `memory_fits` answers. Assumes nothing.
use Prim.Native.Nat.{ℕ, zero, suc, ◌+◌, ◌≤◌, ◌<◌}
use native.Mathlib.Omega.{arith}
use native.Mathlib.Decide.{dec_lt}
use mathlib.Core.Path.{◌≡◌, ap, sym, ◌∙◌}
use mathlib.Core.Bool.{Bool, true, false}
use Rattle.table.specs.Memory.{Memory, digit}
use Rattle.monitor_spec.specs.Valid.{digit_fits, memory_fits}

module _ (a c : ℕ) (m : Memory) where
  -- whether the i-th fits
  abbrev pub fits_at : ℕ → Bool
  fits_at i = digit_fits a c i (digit m i)

  pub fits_at_lem : (i v : ℕ) (r : Bool) → v ≡ digit m i → r ≡ digit_fits a c i v → fits_at i ≡ r
  fits_at_lem i v r e q = sym (q ∙ ap (digit_fits a c i) e)

  pub first_unfit : fits_at 0 ≡ false → false ≡ memory_fits a c m
  unfolding memory_fits digit
  first_unfit h = rw h

  pub second_unfit : fits_at 0 ≡ true → fits_at 1 ≡ false → false ≡ memory_fits a c m
  unfolding memory_fits digit
  second_unfit h k = rw (h, k)

  pub third_unfit : fits_at 0 ≡ true → fits_at 1 ≡ true → fits_at 2 ≡ false → false ≡ memory_fits a c m
  unfolding memory_fits digit
  third_unfit h k l = rw (h, k, l)

  pub last_fits : (r : Bool) → fits_at 0 ≡ true → fits_at 1 ≡ true → fits_at 2 ≡ true → fits_at 3 ≡ r
      → r ≡ memory_fits a c m
  unfolding memory_fits digit
  last_fits r h k l e = rw (h, k, l) (sym e)

  -- those before the i-th fit
  abbrev pub fits_before : ℕ → Type 0
  fits_before i = (j : ℕ) → j < i → fits_at j ≡ true

  pub none_before : fits_before 0
  none_before j h = absurd (omega arith)

  pub one_more : (i : ℕ) → fits_before i → fits_at i ≡ true → fits_before (i + 1)
  one_more i f e j h = by (dec_lt j i)
    where
      by : Dec (j < i) → fits_at j ≡ true
      by (yes k) = f j k
      by (no k) = let q : j ≡ i = omega arith in ap fits_at q ∙ e

  pub unfit_at : (i : ℕ) → i < 4 → fits_before i → fits_at i ≡ false → false ≡ memory_fits a c m
  unfit_at zero h f e = first_unfit e
  unfit_at (suc zero) h f e = second_unfit (f 0 (omega arith)) e
  unfit_at (suc (suc zero)) h f e = third_unfit (f 0 (omega arith)) (f 1 (omega arith)) e
  unfit_at (suc (suc (suc zero))) h f e =
      last_fits false (f 0 (omega arith)) (f 1 (omega arith)) (f 2 (omega arith)) e
  unfit_at (suc (suc (suc (suc i)))) h f e = absurd (omega arith)

  pub all_fit : (i : ℕ) → 4 ≤ i → fits_before i → true ≡ memory_fits a c m
  all_fit i h f =
      last_fits true (f 0 (omega arith)) (f 1 (omega arith)) (f 2 (omega arith)) (f 3 (omega arith))
