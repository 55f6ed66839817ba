-- `trying::trier::try_feed` meets its contract: the further areas' lengths are tried first; then it is entered or
-- refused, as Feed is, and the run is on the copy; the work area is cleared last. Assumes nothing.
use native.Mathlib.Omega.{arith}
use Rattle.state.specs.Record.{monitor_of}
use Rattle.feeding.specs.Feeding.Laws.{feed_enters}
use Rattle.trying.proofs.trier.Outcomes.{try_first, try_second, try_declined, try_fed}
use Rattle.trying.proofs.trier.try_feed.Goals as goal

-- the first further area has another length
pub returns-then-further0-area0 : goal.returns-then-further0-area0
returns-then-further0-area0 c =
    let args = c.args in
    try_first args.list.now args.state _ _ _ _ _ _ c.if-further0-area0.true

-- the second has
pub returns-then-further1-area1 : goal.returns-then-further1-area1
returns-then-further1-area1 c =
    let args = c.args in
    try_second args.list.now args.state _ _ _ _ _ _ c.if-further0-area0.false c.if-further1-area1.true

pub invariant_of-table : goal.invariant_of-table
invariant_of-table c =
    let args = c.args in
    let m = monitor_of args.state args.area0.now args.area1.now in
    record { indexed = (feed_enters args.list.now m args.work.now _ _ c.enter_on.ensures c.in-Ok.is).0 }

pub run_on_copy-answer-requires : goal.run_on_copy-answer-requires
run_on_copy-answer-requires c =
    let args = c.args in
    let m = monitor_of args.state args.area0.now args.area1.now in
    let entered =
    feed_enters args.list.now m args.work.now _ _ c.enter_on.ensures
    c.in-Ok.is in
    record {
      standing = entered.1;
      further0_len = c.if-further0-area0.false;
      further1_len = c.if-further1-area1.false;
    }

-- it is entered
pub returns-in-Ok : goal.returns-in-Ok
returns-in-Ok c =
    let args = c.args in
    try_fed args.list.now args.state args.area0.now args.area1.now args.further0.now
    args.further1.now args.events.now args.work.now _ _ c.enter_on.ensures c.if-further0-area0.false
    c.if-further1-area1.false c.in-Ok.is _ _ _ _ c.run_on_copy-answer.ensures
    c.clear_all.ensures (omega arith)

-- it is refused
pub returns-in-Err : goal.returns-in-Err
returns-in-Err c =
    let args = c.args in
    try_declined args.list.now args.state args.area0.now args.area1.now args.further0.now
    args.further1.now args.events.now args.work.now _ _ c.enter_on.ensures c.if-further0-area0.false
    c.if-further1-area1.false _ c.in-Err.is
