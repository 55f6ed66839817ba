-- `wash_start::fresh::start_in_first` meets its contract. Assumes nothing.
use native.Mathlib.Omega.{arith}
use mathlib.Core.Path.{refl}
use Rattle.entering.specs.Entered.Laws.{areas_same}
use Rattle.wash_start.proofs.fresh.Areas.{measured_first, first_went, first_stopped}
use Rattle.wash_start.proofs.fresh.start_in_first.Goals as goal

pub take_first-requires : goal.take_first-requires
take_first-requires c =
    record {
      other_value = measured_first _ _ c.requires.area1_value.0;
      store_len = c.requires.store_len;
    }

pub copy_words-requires : goal.copy_words-requires
copy_words-requires c =
    omega (arith, areas_same _ _ c.requires.area1_value.0)

pub returns-in-Ok : goal.returns-in-Ok
returns-in-Ok c =
    first_went _ _ c.requires.area1_value.0 _ _ _ _ c.take_first.ensures _
    c.in-Ok.is (omega arith) _ _ c.copy_words.ensures
    c.clear_all.ensures

pub returns-in-Err : goal.returns-in-Err
returns-in-Err c =
    first_stopped _ _ c.requires.area1_value.0 _ _ _ _ c.take_first.ensures
    c.requires.area1_value.1 _ c.in-Err.is _ refl
