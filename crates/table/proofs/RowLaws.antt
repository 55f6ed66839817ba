-- The laws of the rows' bound.
--     fits_out, fits_in, fits_true    the test says just that so many rows may stand
--     fits_small                      it passes for an alphabet of at most 64 events
--     fits_large, fits_no             for a larger one it passes, or fails, by the number of rows
--     fit_less                        fewer rows fit too
-- Assumes nothing.
use Rattle.std.specs.Prelude.{ℕ, ◌<◌, ◌≤◌, ◌≡◌, refl, true, false, T, leb}
use Rattle.std.proofs.Common.{arith, leb→le, le-leb}
use Rattle.std.proofs.Math.Decide.{dec_lt}
use Rattle.std.proofs.lemmas.Bool.{lt-leb}
use Rattle.table.specs.Rows.{large_above, large_rows_most, RowsFit, rows_fit}

pub fits_out : (A n : ℕ) → T (rows_fit A n) → RowsFit A n
unfolding rows_fit
fits_out A n h l = leb→le n large_rows_most (rw (lt-leb A large_above l) at h)

pub fits_small : (A n : ℕ) → A ≤ large_above → rows_fit A n ≡ true
unfolding rows_fit
fits_small A n h = rw (le-leb A large_above h) refl

pub fits_large : (A n : ℕ) → large_above < A → n ≤ large_rows_most → rows_fit A n ≡ true
unfolding rows_fit
fits_large A n h k = rw (lt-leb A large_above h, le-leb n large_rows_most k) refl

pub fits_no : (A n : ℕ) → large_above < A → large_rows_most < n → rows_fit A n ≡ false
unfolding rows_fit
fits_no A n h k = rw (lt-leb A large_above h, lt-leb n large_rows_most k) refl

pub fits_true : (A n : ℕ) → RowsFit A n → rows_fit A n ≡ true
fits_true A n f = go (dec_lt large_above A)
  where
    go : Dec (large_above < A) → rows_fit A n ≡ true
    go (yes l) = fits_large A n l (f l)
    go (no l) = fits_small A n (omega arith)

pub fits_in : (A n : ℕ) → RowsFit A n → T (rows_fit A n)
fits_in A n f = rw (fits_true A n f) tt

pub fit_less : (A m n : ℕ) → m ≤ n → RowsFit A n → RowsFit A m
fit_less A m n h f l = let k = f l in omega arith
