-- `wash_start::fresh::take_fresh` meets its contract. Assumes nothing.
use Rattle.wash_start.proofs.fresh.Areas.{free_other, free_first}
use Rattle.wash_start.proofs.fresh.take_fresh.Goals as goal

pub start_in_other-requires : goal.start_in_other-requires
start_in_other-requires c =
    record {
      area1_value = (
        c.requires.area1_value,
        free_other _ _ _ c.requires.free
            c.if-even.true,
      );
      store_len = c.requires.store_len;
    }

pub returns-then-even : goal.returns-then-even
returns-then-even c =
    record { areas = c.start_in_other.ensures; index = c.stand.ensures }

pub start_in_first-requires : goal.start_in_first-requires
start_in_first-requires c =
    record {
      area1_value = (
        c.requires.area1_value,
        free_first _ _ _ c.requires.free
            c.if-even.false,
      );
      store_len = c.requires.store_len;
    }

pub returns : goal.returns
returns c =
    record { areas = c.start_in_first.ensures; index = c.stand.ensures }
