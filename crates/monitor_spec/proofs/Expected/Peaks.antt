-- The peak that events call for is the greatest count over the beginnings of the list.
--     peak_snoc          with one event more
--     peak_over          no beginning has more;  peak_last: nor has the whole
--     peak_stands        it is the peak before, or a beginning has as many
-- Assumes nothing.
use Prim.Native.Nat.{ℕ, zero, suc, max, ◌≤◌, ◌<◌}
use native.Mathlib.Omega.{arith}
use Rattle.std.proofs.Math.Decide.{dec_lt}
use Rattle.std.specs.Prelude.{◌≡◌, ◌⊎◌, length, take}
use Rattle.std.proofs.Math.Path.{refl}
use mathlib.Core.List.{List, [], ◌∷◌, ◌++◌}
use Rattle.std.proofs.Math.Logic.{inl}
use Rattle.std.proofs.Common.{inr}
use Rattle.table.specs.Table.{Table}
use Rattle.residuals.specs.Residual.{Residual, after_all, run}
use Rattle.residuals.specs.Slots.{slots_of}
use Rattle.monitor_spec.specs.Expected.{peak_onward}

pub max_least : (a b n : ℕ) → a ≤ n → b ≤ n → max a b ≤ n
max_least a b n h k = omega arith

module _ (t : Table) where
  -- the residuals held
  abbrev size : List Residual → ℕ
  size rs = length (slots_of rs)

  pub peak_snoc : (es : List ℕ) (e p : ℕ) (rs : List Residual)
      → peak_onward t p rs (es ++ e ∷ []) ≡ max (peak_onward t p rs es) (size (run t rs (es ++ e ∷ [])))
  unfolding peak_onward run
  peak_snoc [] e p rs = refl
  peak_snoc (d ∷ es) e p rs = peak_snoc es e (max p (size (after_all t d rs))) (after_all t d rs)

  pub peak_grows : (es : List ℕ) (p : ℕ) (rs : List Residual) → p ≤ peak_onward t p rs es
  unfolding peak_onward
  peak_grows [] p rs = omega arith
  peak_grows (e ∷ es) p rs =
      let h = peak_grows es (max p (size (after_all t e rs))) (after_all t e rs) in
      omega arith

  pub peak_over : (es : List ℕ) (k p : ℕ) (rs : List Residual) → size rs ≤ p
      → size (run t rs (take k es)) ≤ peak_onward t p rs es
  unfolding peak_onward run
  peak_over es zero p rs h = let g = peak_grows es p rs in omega arith
  peak_over [] (suc k) p rs h = h
  peak_over (e ∷ es) (suc k) p rs h =
      peak_over es k (max p (size (after_all t e rs))) (after_all t e rs) (omega arith)

  pub peak_last : (es : List ℕ) (p : ℕ) (rs : List Residual) → size rs ≤ p
      → size (run t rs es) ≤ peak_onward t p rs es
  unfolding peak_onward run
  peak_last [] p rs h = h
  peak_last (e ∷ es) p rs h = peak_last es (max p (size (after_all t e rs))) (after_all t e rs) (omega arith)

  -- it is the peak before, or a beginning's count
  pub peak_stands : (es : List ℕ) (p : ℕ) (rs : List Residual)
      → (peak_onward t p rs es ≡ p) ⊎ ((k : ℕ) × (size (run t rs (take k es)) ≡ peak_onward t p rs es))
  unfolding peak_onward run
  peak_stands [] p rs = inl refl
  peak_stands (e ∷ es) p rs =
      by (peak_onward t (max p (size next)) next es) (peak_stands es (max p (size next)) next) (dec_lt p (size next))
    where
      next : List Residual
      next = after_all t e rs

      by : (q : ℕ) → (q ≡ max p (size next)) ⊎ ((k : ℕ) × (size (run t next (take k es)) ≡ q)) → Dec (p < size next)
          → (q ≡ p) ⊎ ((k : ℕ) × (size (run t rs (take k (e ∷ es))) ≡ q))
      by q (inl h) (no l) = inl (omega arith)
      by q (inl h) (yes l) = inr (1, omega arith)
      by q (inr (k, h)) d = inr (suc k, h)
