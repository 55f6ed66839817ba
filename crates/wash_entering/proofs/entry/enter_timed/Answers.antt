-- `wash_entering::entry::enter_timed` meets its contract. Assumes nothing.
use native.Mathlib.Omega.{arith}
use Rattle.wash_entering.proofs.entry.Scheduling.{timed_declined, timed_table, timed_measured}
use Rattle.wash_entering.proofs.entry.Scheduling.{timed_long, timed_accepted}
use Rattle.wash_entering.proofs.entry.enter_timed.Goals as goal

pub enter_wash-requires : goal.enter_wash-requires
enter_wash-requires c =
    let args = c.args in
    let told = c.in-Ok.is in
    let long = timed_long args.everyday.now args.wash.now args.windows.now args.state
    args.area0.now args.area1.now args.events args.minutes
    args.work.now _ c.lent_fit.ensures _ _ c.enter.ensures told in record {
      list_accepted = (
        timed_table args.everyday.now args.wash.now args.windows.now args.state args.area0.now
            args.area1.now args.events args.minutes
            args.work.now _ c.lent_fit.ensures _ _ c.enter.ensures told,
        omega arith,
      );
      area1_value = timed_measured args.everyday.now args.wash.now args.windows.now args.state args.area0.now
          args.area1.now args.events args.minutes
          args.work.now _ c.lent_fit.ensures _ _ c.enter.ensures told;
    }

pub returns-in-Ok : goal.returns-in-Ok
returns-in-Ok c =
    let args = c.args in
    timed_accepted args.everyday.now args.wash.now args.windows.now args.state args.area0.now
    args.area1.now args.events args.minutes
    args.work.now _ c.lent_fit.ensures _ _ c.enter.ensures
    c.in-Ok.is _ _ c.enter_wash.ensures

pub returns-in-Err : goal.returns-in-Err
returns-in-Err c =
    let args = c.args in
    timed_declined args.everyday.now args.wash.now args.windows.now args.state args.area0.now
    args.area1.now args.events args.minutes
    args.work.now _ c.lent_fit.ensures _ _ c.enter.ensures _
    c.in-Err.is
