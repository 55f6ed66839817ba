-- What stands between two events with their minutes (02, W5).
--     list_at          the number list of the table in force
--     TimedStanding    what stands before an event;  Ready: with all that an event asks for
-- The laws are in `Standing/Laws.antt`. Assumes nothing.
use Rattle.std.specs.Prelude.{ℕ, ◌≡◌, true, List, length, T}
use Rattle.table_index.specs.Index.{table_in, Indexed}
use Rattle.monitor_spec.specs.State.{areas_measured, choose}
use Rattle.state.specs.Record.{monitor_of}
use Rattle.feeding.specs.Feeding.{Empty, Standing}
use Rattle.timetable_spec.specs.Timetable.{good_timetable, in_force}
use Rattle.wash_state.specs.declared.answer.TimedState.{TimedState}
use Rattle.wash_state.specs.declared.answer.TimedState.TheVariants.{NotStarted, Started}
use Rattle.wash_start.specs.Fresh.{ListAccepted}
pub mod Laws

-- the number list of the table in force at a minute
unfoldable pub list_at : List ℕ → List ℕ → List ℕ → ℕ → List ℕ
list_at everyday wash windows minute = choose (in_force windows minute) wash everyday

-- before the first event areas of zeros; then the index of the table in force at the last one's minute, and residuals
abbrev pub TimedStanding : List ℕ → List ℕ → List ℕ → TimedState → List ℕ → List ℕ → List ℕ → Type 0
TimedStanding everyday wash windows NotStarted a b work = Empty a × Empty b
TimedStanding everyday wash windows (Started s last) a b work =
    Indexed (list_at everyday wash windows last) work
    × Standing (table_in (list_at everyday wash windows last)) (monitor_of s a b)

pub record TimedReady (everyday wash windows : List ℕ) (s : TimedState) (a b work : List ℕ) : Type 0 where
  pub first : ListAccepted everyday
  pub second : ListAccepted wash
  pub good : T (good_timetable windows)
  pub measured : areas_measured a b ≡ true
  pub long : length work ≡ 8192
  pub stands : TimedStanding everyday wash windows s a b work
