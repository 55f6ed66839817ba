-- `wash_start::fresh::start_in_other` meets its contract. Assumes nothing.
use mathlib.Core.Path.{refl}
use Rattle.wash_start.proofs.fresh.Areas.{measured_other, other_went, other_stopped}
use Rattle.wash_start.proofs.fresh.start_in_other.Goals as goal

pub take_first-requires : goal.take_first-requires
take_first-requires c =
    record {
      other_value = measured_other _ _ c.requires.area1_value.0;
      store_len = c.requires.store_len;
    }

pub returns-in-Ok : goal.returns-in-Ok
returns-in-Ok c =
    other_went _ _ c.requires.area1_value.0 _ _ _ _ c.take_first.ensures _
    c.in-Ok.is _ c.clear_all.ensures

pub returns-in-Err : goal.returns-in-Err
returns-in-Err c =
    other_stopped _ _ c.requires.area1_value.0 _ _ _ _ c.take_first.ensures
    c.requires.area1_value.1 _ c.in-Err.is _ refl
