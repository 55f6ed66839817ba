-- The invariants and measures of `change.gap_begins`.
use Prim.Native.Nat.{◌-◌, ◌≤◌}
use mathlib.Core.Path.{◌≡◌}
use lib.ListN.{length, drop}
use Rattle.timetable_spec.specs.Timetable.{begins, gaps_from}
use Rattle.timetable.proofs.change.gap_begins.Given as goal

abbrev pub invariant-loop-i : goal.invariant-loop-i
invariant-loop-i l =
    (l.i ≤ length l.windows)
    × (begins (gaps_from l.end (drop l.i l.windows)) l.from l.minutes ≡ begins (gaps_from 0 l.windows) l.from l.minutes)

abbrev pub decreases-loop-i : goal.decreases-loop-i
decreases-loop-i l = length l.windows - l.i
