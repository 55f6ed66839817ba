-- `trace::opener::open_list` meets its contract: the list is entered or refused. Assumes nothing.
use Rattle.trace.specs.Opening.Laws.{list_enters, list_declined}
use Rattle.trace.proofs.opener.open_list.Goals as goal

pub invariant_of-table : goal.invariant_of-table
invariant_of-table c =
    record { indexed = list_enters _ _ c.requires.work_len _ _ c.enter.ensures c.in-Ok.is }

pub settle-requires : goal.settle-requires
settle-requires c =
    record { area0_len = c.requires.area0_len }

-- it is refused
pub returns-in-Err : goal.returns-in-Err
returns-in-Err c =
    list_declined _ _ c.requires.work_len _ _ c.enter.ensures _ c.in-Err.is
