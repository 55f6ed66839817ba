-- The invariant of `change.window_begins`: the windows that are left say what all of them say.
use Prim.Native.Nat.{◌*◌}
use mathlib.Core.Path.{◌≡◌}
use lib.ListN.{drop}
use Rattle.timetable_spec.specs.Timetable.{begins}
use Rattle.timetable.proofs.change.window_begins.Given as goal

abbrev pub invariant-loop-i : goal.invariant-loop-i
invariant-loop-i l = begins (drop (2 * l.i) l.windows) l.from l.minutes ≡ begins l.windows l.from l.minutes
