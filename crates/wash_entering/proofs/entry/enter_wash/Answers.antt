-- `wash_entering::entry::enter_wash` meets its contract. Assumes nothing.
use native.Mathlib.Omega.{arith}
use Rattle.entering.specs.Entered.Laws.{entered_open}
use Rattle.wash_entering.proofs.entry.Scheduling.{wash_declined, wash_accepted}
use Rattle.wash_entering.proofs.entry.enter_wash.Goals as goal

pub schedule-requires : goal.schedule-requires
schedule-requires c =
    let index = (entered_open _ _ _ _ c.enter.ensures c.in-Ok.is).1 in
    record {
      list_accepted = (c.requires.list_accepted.0, index);
      area1_value = (c.requires.area1_value, omega (arith, c.requires.list_accepted.1));
    }

pub returns-in-Ok : goal.returns-in-Ok
returns-in-Ok c =
    let args = c.args in
    wash_accepted args.everyday.now args.wash.now args.windows.now args.state args.area0.now
    args.area1.now args.work.now c.requires.list_accepted.1 _ _ c.enter.ensures
    c.in-Ok.is _ _ c.schedule.ensures

pub returns-in-Err : goal.returns-in-Err
returns-in-Err c =
    let args = c.args in
    wash_declined args.everyday.now args.wash.now args.windows.now args.state args.area0.now
    args.area1.now args.work.now c.requires.list_accepted.1 _ _ c.enter.ensures _
    c.in-Err.is
