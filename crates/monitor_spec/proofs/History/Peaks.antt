-- The peak of the record that a list calls for is the greatest count over its beginnings. Assumes nothing.
use Rattle.std.specs.Prelude.{ℕ, ◌≡◌, List, [], ◌⊎◌, length, take}
use Rattle.std.proofs.Common.{arith, sym, inl, inr}
use Rattle.table.specs.Table.{Table}
use Rattle.residuals.specs.Residual.{run, from_definition, residuals_of}
use Rattle.residuals.specs.Slots.{slots_of}
use Rattle.monitor_spec.specs.Joined.{residual_count}
use Rattle.monitor_spec.specs.Expected.{peak_onward, record_of}
use Rattle.monitor_spec.proofs.Expected.Peaks.{peak_over, peak_stands}
use Rattle.monitor_spec.proofs.Expected.Records.{record_peak}
use Rattle.monitor_spec.specs.History.{GreatestOver}

pub record_greatest : (t : Table) (s : List ℕ) → GreatestOver (residual_count t) s (record_of t s).peak
unfolding residual_count residuals_of from_definition run
record_greatest t s =
    rw (record_peak t s) (record {
      bounds = λ k. peak_over t s k first (residuals_of t []) (omega arith);
      reached = by (peak_stands t s first (residuals_of t []));
    })
  where
    first : ℕ
    first = length (slots_of (residuals_of t []))

    top : ℕ
    top = peak_onward t first (residuals_of t []) s

    by : (top ≡ first) ⊎ ((k : ℕ) × (length (slots_of (run t (residuals_of t []) (take k s))) ≡ top))
        → (k : ℕ) × (residual_count t (take k s) ≡ top)
    by (inl e) = (0, sym e)
    by (inr h) = h
