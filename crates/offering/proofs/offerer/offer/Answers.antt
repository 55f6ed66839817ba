-- `offering::offerer::offer` meets its contract: it is entered or refused; the work area is cleared last. Assumes
-- nothing.
use native.Mathlib.Omega.{arith}
use Rattle.state.specs.Record.{monitor_of}
use Rattle.offering.proofs.offerer.Outcomes.{offer_enters, offer_declined, offer_answered}
use Rattle.offering.proofs.offerer.offer.Goals as goal

pub invariant_of-table : goal.invariant_of-table
invariant_of-table c =
    let args = c.args in
    let m = monitor_of args.state args.area0.now args.area1.now in
    record { indexed = (offer_enters args.list.now m args.work.now _ _ c.enter_on.ensures c.in-Ok.is).0 }

pub offered-bits-requires : goal.offered-bits-requires
offered-bits-requires c =
    let args = c.args in
    let m = monitor_of args.state args.area0.now args.area1.now in
    let (x, a, h) = offer_enters args.list.now m args.work.now _ _ c.enter_on.ensures
    c.in-Ok.is in
    record {
      area1_value = a;
      area1_value_2 = h;
    }

-- it is entered
pub returns-in-Ok : goal.returns-in-Ok
returns-in-Ok c =
    let args = c.args in
    let m = monitor_of args.state args.area0.now args.area1.now in
    offer_answered args.list.now m args.work.now _ _ c.enter_on.ensures
    c.in-Ok.is
    _ _ c.offered-bits.ensures c.clear_all.ensures (omega arith)

-- it is refused
pub returns-in-Err : goal.returns-in-Err
returns-in-Err c =
    let args = c.args in
    let m = monitor_of args.state args.area0.now args.area1.now in
    offer_declined args.list.now m args.work.now _ _ c.enter_on.ensures _
    c.in-Err.is
