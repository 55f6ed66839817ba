-- What stands between two events.
--     list_wash, list_everyday     the number list in force;  list_drawing: its table is the drawing in force
--     measured_same                areas of the right lengths have as many slots
-- Assumes nothing.
use Rattle.std.specs.Prelude.{ℕ, ◌≡◌, true, false, List}
use Rattle.table_index.specs.Index.{table_in}
use Rattle.monitor_spec.specs.State.{areas_measured, slot_count, choose}
use Rattle.monitor_spec.proofs.State.Areas.{choose_ap}
use Rattle.entering.specs.Entered.Laws.{areas_same}
use Rattle.timetable_spec.specs.Timetable.{in_force}
use Rattle.wash_spec.specs.Taking.{drawing_at}
use Rattle.wash_start.specs.Standing.{list_at}

-- ---- the number list in force
module _ (everyday wash windows : List ℕ) (minute : ℕ) where
  pub list_wash : in_force windows minute ≡ true → list_at everyday wash windows minute ≡ wash
  unfolding list_at choose
  list_wash e = rw e

  pub list_everyday : in_force windows minute ≡ false → list_at everyday wash windows minute ≡ everyday
  unfolding list_at choose
  list_everyday e = rw e

  pub list_drawing : table_in (list_at everyday wash windows minute)
      ≡ drawing_at (table_in everyday) (table_in wash) windows minute
  unfolding list_at drawing_at
  list_drawing = choose_ap table_in (in_force windows minute) wash everyday

-- ---- the slots of the areas
pub measured_same : (a b : List ℕ) → areas_measured a b ≡ true → slot_count b ≡ slot_count a
unfolding slot_count
measured_same a b m = let e = areas_same a b m in rw e
