-- The invariant of `reads.take_read`.
use mathlib.Core.Path.{◌≡◌}
use lib.ListN.{length, take}
use Rattle.table_index.specs.Index.{table_in}
use Rattle.state.specs.Record.{monitor_of}
use Rattle.tracing.specs.Tracing.{Tracing}
use Rattle.saying.specs.Spoken.{said_of}
use Rattle.course_spec.specs.Course.{Rooms, Onward}
use Rattle.arrivals.proofs.reads.take_read.Given as goal

abbrev pub invariant-loop-e : goal.invariant-loop-e
invariant-loop-e l =
    (length l.area0 ≡ length l.initial.area0) × (length l.area1 ≡ length l.initial.area1)
    × (length l.store ≡ length l.initial.store) × (length l.text ≡ length l.initial.text)
    × Rooms l.initial.store l.initial.text
    × Onward (table_in l.list) (monitor_of l.initial.last l.initial.area0 l.initial.area1)
    (said_of l.initial.spoken) (take l.e-index l.events) (monitor_of l.last l.area0 l.area1) (said_of l.spoken)
    × Tracing l.list l.work (monitor_of l.last l.area0 l.area1)
