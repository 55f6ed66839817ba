-- Each refusal before the first event by its condition, on every input (02, W5; 01, "When the monitor declines").
--     TimedMeasured     the lent lengths are as they should be
--     TimedLaid         the record and areas are those of residuals, or zero before the first event
--     TimedRefused      1; 2 to 9, of the everyday table and then of the wash table; 16; 10
--     TimedWorkLeft     what stands in the work area after a call
-- The laws are in `proofs/Refusals/Laws.antt`. What a call does with its events is in `Progress.antt`. Assumes nothing.
use Rattle.std.specs.Prelude.{ℕ, ◌≡◌, List, length}
use Rattle.table.specs.Table.{Table}
use Rattle.table.specs.Refusals.{Refused}
use Rattle.table.specs.Operations.{zeros}
use Rattle.monitor_spec.specs.State.{slot_count}
use Rattle.monitor_spec.specs.Sensible.{Laid}
use Rattle.monitor_spec.specs.Refusals.{Measured, IsTable}
use Rattle.timetable_spec.specs.Windows.{Windows}
use Rattle.wash_spec.specs.Timed.{TimedState, not_started, started, TimedMonitor, plain}
use Rattle.wash_spec.specs.Taking.{drawing_at}

-- 01: "Lent areas 0 and 1 .."; "Each event brings an absolute minute"
pub record TimedMeasured (m : TimedMonitor) (es ms w : List ℕ) : Type 0 where
  pub lent : Measured m.area0 m.area1 w
  pub paired : length es ≡ length ms

-- "(read on the drawing in force at the last event's minute; before the first event, only zero areas)"
abbrev pub LaidBy : Table → Table → List ℕ → TimedState → List ℕ → List ℕ → Type 0
LaidBy t u windows not_started a b = (a ≡ zeros (length a)) × (b ≡ zeros (length b))
LaidBy t u windows (started s last) a b = Laid (drawing_at t u windows last) (slot_count a) (plain s a b)

abbrev pub TimedLaid : Table → Table → List ℕ → TimedMonitor → Type 0
TimedLaid t u windows m = LaidBy t u windows m.state m.area0 m.area1

-- "16 bad timetable, after both tables, the everyday one first, and before 10"; "Any place not named .. is 0": the
-- number lists l and k
pub data TimedRefused (l k windows : List ℕ) (m : TimedMonitor) (es ms w : List ℕ) (n p : ℕ) : Type 0 where
  wrong_length : (TimedMeasured m es ms w → ⊥) → n ≡ 1 → p ≡ 0 → TimedRefused l k windows m es ms w n p
  bad_everyday : TimedMeasured m es ms w → Refused l n p → TimedRefused l k windows m es ms w n p
  bad_wash : TimedMeasured m es ms w → (t : Table) → IsTable l t → Refused k n p
      → TimedRefused l k windows m es ms w n p
  bad_timetable : TimedMeasured m es ms w → (t u : Table) → IsTable l t → IsTable k u
      → (Windows windows → ⊥) → n ≡ 16 → p ≡ 0 → TimedRefused l k windows m es ms w n p
  inconsistent : TimedMeasured m es ms w → (t u : Table) → IsTable l t → IsTable k u → Windows windows
      → (TimedLaid t u windows m → ⊥) → n ≡ 10 → p ≡ 0 → TimedRefused l k windows m es ms w n p

-- 01: "all zero after each call, but kept on refusal 1": there stands v
pub record TimedWorkLeft (m : TimedMonitor) (es ms w v : List ℕ) : Type 0 where
  pub zeroed : TimedMeasured m es ms w → v ≡ zeros 8192
  pub kept : (TimedMeasured m es ms w → ⊥) → v ≡ w
