-- What a call does with its events on any consistent monitor, reached or not (02, W5).
--     ClockBack, Due         17 is met; a fresh start is due
--     Reaches                "the drawing and count so reached": the record and residuals that an event is met on
--     TimedMeets, TimedTakes an event is refused; it is taken, and what it leaves
--     TimedRuns              the events of a list are taken
--     TimedStops, TimedGives the call stops at an event; it takes all events
-- The laws are in `proofs/Progress/`: `Tests`, `Laws`, `Lists`. Assumes nothing.
use Rattle.std.specs.Prelude.{ℕ, ◌≤◌, ◌<◌, ◌≡◌, List, [], ◌∷◌, ◌++◌, ◌⊎◌, length}
use Rattle.table.specs.Table.{Table}
use Rattle.residuals.specs.Residual.{Residual, residuals_of}
use Rattle.monitor_spec.specs.State.{State, fresh_state, slot_count}
use Rattle.monitor_spec.specs.Joined.{residual_count}
use Rattle.monitor_spec.specs.Expected.{monitor_onward}
use Rattle.monitor_spec.specs.Sensible.{Laid}
use Rattle.monitor_spec.specs.Refusals.{IsTable}
use Rattle.monitor_spec.specs.Progress.{Meets, Passes}
use Rattle.timetable_spec.specs.Timetable.{Changes}
use Rattle.timetable_spec.specs.Windows.{Windows}
use Rattle.wash_spec.specs.Timed.{TimedState, not_started, started, TimedMonitor, plain, stamped, stopped}
use Rattle.wash_spec.specs.Timed.{TimedOutcome}
use Rattle.wash_spec.specs.Taking.{drawing_at}
use Rattle.wash_spec.specs.Feed.{events_of, minutes_of}
use Rattle.wash_spec.specs.Refusals.{TimedMeasured, TimedLaid}

-- "17 clock back, a minute below the last or 2^48 or more"
abbrev pub ClockBack : TimedState → ℕ → Type 0
ClockBack not_started now = 281474976710656 ≤ now
ClockBack (started s last) now = (now < last) ⊎ (281474976710656 ≤ now)

-- "The monitor starts with its first event"; "If the drawing in force changes at any minute after the last event's, up
-- to and including the present one's, the monitor starts afresh"
abbrev pub Due : List ℕ → TimedState → ℕ → Type 0
Due windows not_started now = Unit
Due windows (started s last) now = Changes windows last now

-- "met on the drawing and count so reached": on the table t, now in force
pub data Reaches (t : Table) (windows : List ℕ) (m : TimedMonitor) (now : ℕ) (s : State) (rs : List Residual)
    : Type 0 where
  -- "starts afresh, taken 0, on the drawing now in force"
  afresh : Due windows m.state now → residual_count t [] ≤ slot_count m.area0
      → s ≡ fresh_state (residual_count t []) → rs ≡ residuals_of t [] → Reaches t windows m now s rs
  onward : (last : ℕ) → m.state ≡ started s last → (Changes windows last now → ⊥)
      → (h : Laid t (slot_count m.area0) (plain s m.area0 m.area1)) → rs ≡ h.residuals
      → Reaches t windows m now s rs

-- an event e at the minute now is refused
pub data TimedMeets (t : Table) (windows : List ℕ) (m : TimedMonitor) (e now : ℕ) (number : ℕ) : Type 0 where
  -- "17 .., checked before crowded settling"
  clock_back_lem : ClockBack m.state now → number ≡ 17 → TimedMeets t windows m e now number
  -- "Crowded settling": 13, before 11
  start_exceeded : (ClockBack m.state now → ⊥) → Due windows m.state now
      → slot_count m.area0 < residual_count t [] → number ≡ 13 → TimedMeets t windows m e now number
  -- "then 11 to 13"
  met : (ClockBack m.state now → ⊥) → (s : State) (rs : List Residual) → Reaches t windows m now s rs
      → Meets t (slot_count m.area0) s.taken rs e number → TimedMeets t windows m e now number

-- it is taken, and leaves the monitor that it calls for, with its minute
pub record TimedTakes (t : Table) (windows : List ℕ) (m : TimedMonitor) (e now : ℕ) (left : TimedMonitor)
    : Type 0 where
  pub in_time : ClockBack m.state now → ⊥
  pub state : State
  pub residuals : List Residual
  pub reaches : Reaches t windows m now state residuals
  pub passes : Passes t (slot_count m.area0) state.taken residuals (e ∷ [])
  pub leaves : left ≡ stamped now (monitor_onward t (slot_count m.area0) state residuals (e ∷ []))

abbrev pub TimedRuns : Table → Table → List ℕ → TimedMonitor → List (ℕ × ℕ) → TimedMonitor → Type 0
TimedRuns t u windows m [] left = left ≡ m
TimedRuns t u windows m (p ∷ ps) left =
    (next : TimedMonitor)
    × TimedTakes (drawing_at t u windows p.1) windows m p.0 p.1 next
    × TimedRuns t u windows next ps left

-- "Each event brings an absolute minute"
pub record Zips (es ms : List ℕ) (ps : List (ℕ × ℕ)) : Type 0 where
  pub events : es ≡ events_of ps
  pub minutes : ms ≡ minutes_of ps

-- a refusal with what stands: number, place, record and areas
pub record TimedLeavesAt (o : TimedOutcome) (number place : ℕ) (m : TimedMonitor) : Type 0 where
  pub record_same : o.answer ≡ stopped number place m.state
  pub area0_same : o.area0 ≡ m.area0
  pub area1_same : o.area1 ≡ m.area1

-- none of 1 to 10 and 16 is met
pub record TimedEnters (l k windows : List ℕ) (m : TimedMonitor) (es ms w : List ℕ) : Type 0 where
  pub measured : TimedMeasured m es ms w
  pub everyday : Table
  pub wash : Table
  pub is_everyday : IsTable l everyday
  pub is_wash : IsTable k wash
  pub good : Windows windows
  pub laid : TimedLaid everyday wash windows m

-- the call stops at an event; "a refused event restores all of before": record, areas and minute are those that the
-- events before it leave. Its place counts "events taken by this call"
pub record TimedStops (l k windows : List ℕ) (m : TimedMonitor) (es ms w : List ℕ) (number place : ℕ)
    (left : TimedMonitor) : Type 0 where
  pub enters : TimedEnters l k windows m es ms w
  pub before : List (ℕ × ℕ)
  pub event : ℕ
  pub minute : ℕ
  pub rest : List (ℕ × ℕ)
  pub split : Zips es ms (before ++ (event, minute) ∷ rest)
  pub placed : length before ≡ place
  pub runs : TimedRuns enters.everyday enters.wash windows m before left
  pub meets : TimedMeets (drawing_at enters.everyday enters.wash windows minute) windows left event minute number

-- the call takes all events
pub record TimedGives (l k windows : List ℕ) (m : TimedMonitor) (es ms w : List ℕ) (left : TimedMonitor) : Type 0 where
  pub enters : TimedEnters l k windows m es ms w
  pub pairs : List (ℕ × ℕ)
  pub zips : Zips es ms pairs
  pub runs : TimedRuns enters.everyday enters.wash windows m pairs left
