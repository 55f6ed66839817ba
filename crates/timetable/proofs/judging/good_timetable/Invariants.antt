-- The invariants and measures of `judging.good_timetable`.
use Prim.Native.Nat.{◌-◌, ◌≤◌}
use mathlib.Core.Path.{◌≡◌}
use lib.ListN.{length, drop}
use Rattle.timetable_spec.specs.Timetable.{good_from, good_timetable}
use Rattle.timetable.proofs.judging.good_timetable.Given as goal

abbrev pub invariant-loop-i : goal.invariant-loop-i
invariant-loop-i l = (l.i ≤ length l.windows) × (good_from l.floor (drop l.i l.windows) ≡ good_timetable l.windows)

abbrev pub decreases-loop-i : goal.decreases-loop-i
decreases-loop-i l = length l.windows - l.i
