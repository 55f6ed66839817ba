-- One event with its minute (02, W5), on two tables: the everyday one and that of the wash hours.
--     drawing_at             the table in force at a minute
--     clock_back, start_due  17 is met; the monitor starts afresh
--     take_fresh, take_on    the event on a fresh start; on what stands
--     take_timed             the monitor after it, or the refusal
-- The laws are in `proofs/Taking/Laws.antt`. Assumes nothing.
use Rattle.std.specs.Prelude.{ℕ, Bool, true, false, ◌||◌, List, [], length, ltb, leb}
use Rattle.table.specs.Table.{Table}
use Rattle.residuals.specs.Residual.{residuals_of}
use Rattle.residuals.specs.Slots.{slots_of}
use Rattle.monitor_spec.specs.State.{Monitor, slot_count, choose}
use Rattle.monitor_spec.specs.Fold.{StepEnd, went, stops}
use Rattle.monitor_spec.specs.Feed.{take_event}
use Rattle.monitor_spec.specs.Open.{fresh_monitor}
use Rattle.timetable_spec.specs.Timetable.{minute_bound, in_force, changes}
use Rattle.wash_spec.specs.Timed.{TimedState, not_started, started, TimedMonitor, plain, stamped}

-- "In wash hours another drawing applies."
unfoldable pub drawing_at : Table → Table → List ℕ → ℕ → Table
drawing_at everyday wash windows minute = choose (in_force windows minute) wash everyday

-- "17 clock back, a minute below the last or 2^48 or more"
unfoldable pub clock_back : TimedState → ℕ → Bool
clock_back not_started now = leb minute_bound now
clock_back (started s last) now = ltb now last || leb minute_bound now

-- "The monitor starts with its first event"; "If the drawing in force changes at any minute after the last event's, up
-- to and including the present one's, the monitor starts afresh"
unfoldable pub start_due : List ℕ → TimedState → ℕ → Bool
start_due windows not_started now = true
start_due windows (started s last) now = changes windows last now

-- "starts afresh, taken 0, on the drawing now in force": with n slots. "Crowded settling, then 11 to 13, are met on the
-- drawing and count so reached"
unfoldable pub take_fresh : Table → ℕ → ℕ → StepEnd Monitor
take_fresh t n e =
    elim (ltb n (length (slots_of (residuals_of t [])))) [ true ↦ stops 13 | false ↦ take_event t (fresh_monitor t n) e ]

-- where a start is due, and where none is: on the table t
unfoldable pub take_on : Table → Bool → TimedState → List ℕ → List ℕ → ℕ → StepEnd Monitor
take_on t due not_started a b e = take_fresh t (slot_count a) e
take_on t due (started s last) a b e =
    elim due [ true ↦ take_fresh t (slot_count a) e | false ↦ take_event t (plain s a b) e ]

-- what is taken leaves the event's minute; "a refused event restores all of before"
unfoldable pub at_minute : ℕ → StepEnd Monitor → StepEnd TimedMonitor
at_minute now (went m) = went (stamped now m)
at_minute now (stops k) = stops k

-- "17 .. checked before crowded settling": an event and its minute
unfoldable pub take_timed : Table → Table → List ℕ → TimedMonitor → ℕ × ℕ → StepEnd TimedMonitor
take_timed everyday wash windows m p =
    elim (clock_back m.state p.1) [
      | true ↦ stops 17
      | false ↦ at_minute p.1 (take_on (drawing_at everyday wash windows p.1) (start_due windows m.state p.1)
          m.state m.area0 m.area1 p.0)
    ]
