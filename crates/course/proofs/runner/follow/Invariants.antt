-- The invariants and measures of `runner.follow`.
use Prim.Native.Nat.{◌-◌, ◌≤◌, ◌<◌}
use mathlib.Core.Path.{◌≡◌}
use lib.ListN.{length}
use Rattle.table_index.specs.Index.{table_in}
use Rattle.state.specs.Record.{monitor_of}
use Rattle.tracing.specs.Tracing.{Tracing}
use Rattle.saying.specs.Spoken.{said_of}
use Rattle.course_spec.specs.Course.{Rooms, Gone}
use Rattle.course.proofs.runner.follow.Given as goal

abbrev pub invariant-loop-next : goal.invariant-loop-next
invariant-loop-next l =
    (length l.area0 ≡ length l.initial.area0) × (length l.area1 ≡ length l.initial.area1) × (length l.piece ≡ length l.initial.piece)
    × (length l.store ≡ length l.initial.store) × (length l.text ≡ length l.initial.text) × Rooms l.initial.store l.initial.text × (0 < length l.initial.piece)
    × (l.last.taken ≤ 18446744073709551615)
    × Gone (table_in l.list) (monitor_of l.initial.last l.initial.area0 l.initial.area1) (said_of l.initial.spoken) (monitor_of l.last l.area0 l.area1)
    (said_of l.spoken)
    × Tracing l.list l.work (monitor_of l.last l.area0 l.area1)

abbrev pub decreases-loop-next : goal.decreases-loop-next
decreases-loop-next l =
    18446744073709551615 - l.last.taken
