-- `long_runs::stretches::take_stretch` meets its contract: a run from where another one left. Assumes nothing.
use native.Mathlib.Omega.{arith}
use Rattle.table_index.specs.Index.{table_in}
use Rattle.state.specs.Record.{monitor_of}
use Rattle.taking.specs.Runs.{RunBy}
use Rattle.taking.specs.Runs.Laws.{run_ended, run_left, run_then}
use Rattle.long_runs.proofs.stretches.take_stretch.Goals as goal

-- ---- places of the code
-- the monitor from which the run goes
-- ---- the calls and the returns
pub take_kept-requires : goal.take_kept-requires
take_kept-requires c =
    let pre =
    c.requires in
    record {
      standing = pre.standing;
      from_in_bounds = pre.from_in_bounds.0;
      store_of = pre.store_of;
    }

pub take_each-requires : goal.take_each-requires
take_each-requires c =
    let pre = c.requires in
    let g = run_left (table_in c.args.table.now.list.now) (let args = c.args in
    monitor_of args.state args.area0.now args.area1.now) _ _ _ _ _ _ c.take_kept.ensures.0 _ _ c.in-Left.is in record {
      standing = g.0.standing;
      from_in_bounds = (omega (arith, g.2, pre.from_in_bounds.0), pre.from_in_bounds.1);
      store_of = c.take_kept.ensures.1;
    }

pub returns-in-Ended : goal.returns-in-Ended
unfolding RunBy
returns-in-Ended c = (
  run_ended (table_in c.args.table.now.list.now) (let args = c.args in
      monitor_of args.state args.area0.now args.area1.now) _ _ _ _ _ _ c.take_kept.ensures.0 _ c.in-Ended.is,
  c.take_kept.ensures.1,
)

pub returns-in-Left : goal.returns-in-Left
returns-in-Left c =
    let g = run_left (table_in c.args.table.now.list.now) (let args = c.args in
    monitor_of args.state args.area0.now args.area1.now) _ _ _ _ _ _ c.take_kept.ensures.0 _ _ c.in-Left.is in (
      run_then (table_in c.args.table.now.list.now) (let args = c.args in
          monitor_of args.state args.area0.now args.area1.now) _ _ _ _ g.0 _ _ _ _ c.take_each.ensures.0,
      c.take_each.ensures.1,
    )
