-- `entering::entry::enter_on` meets its contract: 1 to 9 are tried first, then whether state and areas agree.
-- Assumes nothing.
use native.Mathlib.Omega.{arith}
use mathlib.Core.Path.{sym, ◌∙◌}
use Rattle.state.specs.Record.{monitor_of}
use Rattle.state.specs.Record.Laws.{lengths_measured}
use Rattle.entering.specs.Entered.Laws.{entered_shut, entered_open, areas_same, on_lent, on_declined}
use Rattle.entering.specs.Entered.Laws.{on_disagreeing, on_agreeing}
use Rattle.entering.proofs.entry.enter_on.Goals as goal

pub invariant_of-table : goal.invariant_of-table
invariant_of-table c =
    record { indexed = (entered_open _ _ _ _ c.enter.ensures c.in-Ok.is).1 }

pub consistent-requires : goal.consistent-requires
consistent-requires c =
    let args = c.args in
    let m = monitor_of args.state args.area0.now args.area1.now in
    let opened = entered_open _ _ _ _ c.enter.ensures c.in-Ok.is in record {
      area0_len = areas_same _ _
          (on_lent _ m _ _ (c.lengths_fit.ensures ∙ lengths_measured _ _) opened.0);
    }

-- state and areas agree
pub returns-then-consistent : goal.returns-then-consistent
returns-then-consistent c =
    let args = c.args in
    let m = monitor_of args.state args.area0.now args.area1.now in
    let opened = entered_open _ _ _ _ c.enter.ensures c.in-Ok.is in
    on_agreeing args.list.now m args.work.now _ (c.lengths_fit.ensures ∙ lengths_measured _ _)
    opened.0
    (sym c.consistent.ensures ∙ c.if-consistent.true) _ opened.1

-- they do not agree
pub returns-else-consistent : goal.returns-else-consistent
returns-else-consistent c =
    let args = c.args in
    let m = monitor_of args.state args.area0.now args.area1.now in
    let opened = entered_open _ _ _ _ c.enter.ensures c.in-Ok.is in
    on_disagreeing args.list.now m args.work.now _ (c.lengths_fit.ensures ∙ lengths_measured _ _)
    opened.0
    (sym c.consistent.ensures ∙ c.if-consistent.false) _ _ opened.1
    c.clear_all.ensures (omega arith)

-- a refusal of 1 to 9
pub returns-in-Err : goal.returns-in-Err
returns-in-Err c =
    let args = c.args in
    let m = monitor_of args.state args.area0.now args.area1.now in
    on_declined args.list.now m args.work.now _ (c.lengths_fit.ensures ∙ lengths_measured _ _) _ _
    (entered_shut _ _ _ _ c.enter.ensures _ c.in-Err.is)
