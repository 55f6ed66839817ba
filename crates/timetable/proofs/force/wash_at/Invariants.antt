-- The invariant of `force.wash_at`: the windows that are left say what all of them say.
use Prim.Native.Nat.{◌*◌}
use mathlib.Core.Path.{◌≡◌}
use lib.ListN.{drop}
use Rattle.timetable_spec.specs.Timetable.{wash_at}
use Rattle.timetable.proofs.force.wash_at.Given as goal

abbrev pub invariant-loop-i : goal.invariant-loop-i
invariant-loop-i l = wash_at (drop (2 * l.i) l.windows) l.minute ≡ wash_at l.windows l.minute
