-- `feeding::feeder::feed` meets its contract: it is entered or refused; the work area is cleared last. Assumes
-- nothing.
use native.Mathlib.Omega.{arith}
use Rattle.state.specs.Record.{monitor_of}
use Rattle.feeding.specs.Feeding.Laws.{feed_enters, feed_declined, feed_fed}
use Rattle.feeding.proofs.feeder.feed.Goals as goal

pub invariant_of-table : goal.invariant_of-table
invariant_of-table c =
    let args = c.args in
    let m = monitor_of args.state args.area0.now args.area1.now in
    record { indexed = (feed_enters args.list.now m args.work.now _ _ c.enter_on.ensures c.in-Ok.is).0 }

pub take_all-answer-requires : goal.take_all-answer-requires
take_all-answer-requires c =
    let args = c.args in
    let m = monitor_of args.state args.area0.now args.area1.now in
    let both = feed_enters args.list.now m args.work.now _ _ c.enter_on.ensures c.in-Ok.is in record { standing = both.1 }

-- it is entered
pub returns-in-Ok : goal.returns-in-Ok
returns-in-Ok c =
    let args = c.args in
    let m = monitor_of args.state args.area0.now args.area1.now in
    feed_fed args.list.now m args.work.now _ _ c.enter_on.ensures
    c.in-Ok.is _ _ _ _ _
    c.take_all-answer.ensures c.clear_all.ensures (omega arith)

-- it is refused
pub returns-in-Err : goal.returns-in-Err
returns-in-Err c =
    let args = c.args in
    let m = monitor_of args.state args.area0.now args.area1.now in
    feed_declined args.list.now m args.work.now _ _ c.enter_on.ensures _ _
    c.in-Err.is
