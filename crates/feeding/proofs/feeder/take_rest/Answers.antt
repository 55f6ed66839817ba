-- `feeding::feeder::take_rest` meets its contract: a run from where another one left. Assumes nothing.
use native.Mathlib.Omega.{arith}
use Rattle.table_index.specs.Index.{table_in}
use Rattle.state.specs.Record.{monitor_of}
use Rattle.taking.specs.Runs.Laws.{ended_then, ended_done, run_ended, run_left}
use Rattle.feeding.proofs.feeder.take_rest.Goals as goal

pub take_each-requires : goal.take_each-requires
take_each-requires c =
    let pre = c.requires in
    record {
      standing = pre.standing;
      from_in_bounds = (omega (arith, pre.from_in_bounds), c.alone-to.ensures.1);
      store_of = pre.store_of;
    }

pub returns-then-events-i : goal.returns-then-events-i
returns-then-events-i c =
    let g = run_left (table_in c.args.table.now.list.now) (let args = c.args in
    monitor_of args.state args.area0.now args.area1.now) _ _ _ _ _ _ c.take_each.ensures.0 _ _ c.in-Left.is in
    ended_done (table_in c.args.table.now.list.now) (let args = c.args in
    monitor_of args.state args.area0.now args.area1.now) _ _ _ _ _ _ g.0 c.if-events-i.true

pub take_long-requires : goal.take_long-requires
take_long-requires c =
    let g = run_left (table_in c.args.table.now.list.now) (let args = c.args in
    monitor_of args.state args.area0.now args.area1.now) _ _ _ _ _ _ c.take_each.ensures.0 _ _ c.in-Left.is in
    record {
      standing = g.0.standing;
      from_in_bounds = g.2;
      store_of = c.take_each.ensures.1;
    }

pub returns-in-Ended : goal.returns-in-Ended
returns-in-Ended c =
    run_ended (table_in c.args.table.now.list.now) (let args = c.args in
    monitor_of args.state args.area0.now args.area1.now) _ _ _ _ _ _ c.take_each.ensures.0 _ c.in-Ended.is

pub returns-else-events-i : goal.returns-else-events-i
returns-else-events-i c =
    let g = run_left (table_in c.args.table.now.list.now) (let args = c.args in
    monitor_of args.state args.area0.now args.area1.now) _ _ _ _ _ _ c.take_each.ensures.0 _ _ c.in-Left.is in
    ended_then (table_in c.args.table.now.list.now) (let args = c.args in
    monitor_of args.state args.area0.now args.area1.now) _ _ _ _ g.0 _ _ _ c.take_long.ensures
