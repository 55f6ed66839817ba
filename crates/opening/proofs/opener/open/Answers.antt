-- `opening::opener::open` meets its contract: it is entered or refused; the work area is cleared last. Assumes nothing.
use native.Mathlib.Omega.{arith}
use Rattle.opening.specs.Opening.Laws.{open_enters, open_declined, open_accepted_lem}
use Rattle.opening.proofs.opener.open.Goals as goal

pub invariant_of-table : goal.invariant_of-table
invariant_of-table c =
    let args = c.args in
    record { indexed = (open_enters args.list.now args.area0.now args.area1.now args.events.now args.work.now _ c.lengths_fit.ensures _ _ c.enter.ensures c.in-Ok.is).0 }

pub open_accepted-answer-requires : goal.open_accepted-answer-requires
open_accepted-answer-requires c =
    let args = c.args in
    let both = open_enters args.list.now args.area0.now args.area1.now args.events.now args.work.now _
    c.lengths_fit.ensures _ _ c.enter.ensures c.in-Ok.is in record { area1_value = both.1 }

-- it is entered
pub returns-in-Ok : goal.returns-in-Ok
returns-in-Ok c =
    let args = c.args in
    open_accepted_lem args.list.now args.area0.now args.area1.now args.events.now args.work.now _
    c.lengths_fit.ensures _ _ c.enter.ensures c.in-Ok.is _ _ _ _
    c.open_accepted-answer.ensures c.clear_all.ensures (omega arith)

-- it is refused
pub returns-in-Err : goal.returns-in-Err
returns-in-Err c =
    let args = c.args in
    open_declined args.list.now args.area0.now args.area1.now args.events.now args.work.now _
    c.lengths_fit.ensures _ _ c.enter.ensures _ c.in-Err.is
