-- What stands before the first event of a call (02, W5): "16 bad timetable, after both tables, the everyday one first,
-- and before 10". It stands on what the monitor's operations enter by.
--     timed_measured                   lent lengths
--     timed_consistent                 10 is not met
--     TimedEntrance, timed_entrance    refused, by number, place and the work words then; or both tables
-- The laws are in `proofs/Entering/Laws.antt`. Assumes nothing.
use Rattle.std.specs.Prelude.{ℕ, Bool, true, false, ◌&&◌, List, length, eqb}
use Rattle.table.specs.Table.{Table}
use Rattle.table.specs.Judge.{judge_list}
use Rattle.table.specs.Operations.{zeros}
use Rattle.monitor_spec.specs.State.{areas_measured, work_measured}
use Rattle.monitor_spec.specs.Consistent.{all_zero, consistent}
use Rattle.monitor_spec.specs.Entering.{judging, entrance, entering}
use Rattle.timetable_spec.specs.Timetable.{good_timetable}
use Rattle.wash_spec.specs.Timed.{TimedState, not_started, started, TimedMonitor, plain}
use Rattle.wash_spec.specs.Taking.{drawing_at}

-- "Each event brings an absolute minute": as many minutes as events, else 1 (docs/DECISIONS.md)
unfoldable pub timed_measured : TimedMonitor → List ℕ → List ℕ → List ℕ → Bool
timed_measured m events minutes work =
    (areas_measured m.area0 m.area1 && work_measured work) && eqb (length events) (length minutes)

-- "10 (read on the drawing in force at the last event's minute; before the first event, only zero areas)"
unfoldable pub agrees_by : Table → Table → List ℕ → TimedState → List ℕ → List ℕ → Bool
agrees_by everyday wash windows not_started a b = all_zero a && all_zero b
agrees_by everyday wash windows (started s last) a b = consistent (drawing_at everyday wash windows last) (plain s a b)

unfoldable pub timed_consistent : Table → Table → List ℕ → TimedMonitor → Bool
timed_consistent everyday wash windows m = agrees_by everyday wash windows m.state m.area0 m.area1

pub data TimedEntrance : Type 0 where
  shut : ℕ → ℕ → List ℕ → TimedEntrance
  admits : Table → Table → TimedEntrance

-- "16 bad timetable, .. before 10", places 0; the work area, of k words, is all zero
unfoldable pub scheduling : List ℕ → TimedMonitor → ℕ → Table → Table → TimedEntrance
scheduling windows m k everyday wash =
    elim (good_timetable windows) [
      | true ↦ elim (timed_consistent everyday wash windows m) [
        | true ↦ admits everyday wash
        | false ↦ shut 10 0 (zeros k)
      ]
      | false ↦ shut 16 0 (zeros k)
    ]

-- "after both tables, the everyday one first": their number lists, the timetable, whether lent lengths are right
unfoldable pub timed_entrance : List ℕ → List ℕ → List ℕ → TimedMonitor → Bool → List ℕ → TimedEntrance
timed_entrance everyday wash windows m fits work =
    let k = length work in
    entering shut
    (λ t. entering shut (λ u. scheduling windows m k t u) (judging (judge_list wash) k))
    (entrance fits everyday work)
