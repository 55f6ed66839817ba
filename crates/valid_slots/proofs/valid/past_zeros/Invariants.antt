-- The invariants and measures of `valid.past_zeros`.
use Prim.Native.Nat.{◌-◌}
use mathlib.Core.Path.{◌≡◌}
use lib.ListN.{length, drop}
use Rattle.monitor_spec.specs.Consistent.{all_zero}
use Rattle.valid_slots.proofs.valid.past_zeros.Given as goal

abbrev pub invariant-loop-i : goal.invariant-loop-i
invariant-loop-i l = all_zero (drop l.i l.area) ≡ all_zero (drop l.from l.area)

abbrev pub decreases-loop-i : goal.decreases-loop-i
decreases-loop-i l = length l.area - l.i
