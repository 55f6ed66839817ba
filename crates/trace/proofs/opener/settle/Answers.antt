-- `trace::opener::settle` meets its contract: what is resolved is the monitor before any event, or there is no room for
-- it. Assumes nothing.
use mathlib.Core.Path.{refl}
use Rattle.line_spec.proofs.Opening.Laws.{areas_measured_lem}
use Rattle.tracing.specs.Tracing.Laws.{tracing_measured, tracing_consistent}
use Rattle.trace.specs.Opening.Laws.{settled_tracing, settled_starts, settled_exceeds}
use borrow.Author.Rules.{rules}
use Rattle.trace.proofs.opener.settle.Goals as goal

pub resolve_last-requires : goal.resolve_last-requires
resolve_last-requires c =
    record {
      area1_value = areas_measured_lem _ _ c.requires.area0_len.0 c.requires.area0_len.1;
    }

pub offered-permitted-requires : goal.offered-permitted-requires
offered-permitted-requires c =
    let x = settled_tracing c.args.table.now.indexed _ _ _ c.requires.area0_len.0 _
    (rw c.in-Ok.is at c.resolve_last.ensures) c.fresh-state.result
    c.fresh-state.ensures in
    record {
      area1_value = tracing_measured _ _ _ x;
      area1_value_2 = tracing_consistent _ _ _ x;
    }

-- the slots suffice
pub returns-in-Ok : goal.returns-in-Ok
returns-in-Ok c =
    let starts = settled_starts c.args.table.now.indexed _ _ _ c.requires.area0_len.0 _
    (rw c.in-Ok.is at c.resolve_last.ensures) c.fresh-state.result
    c.fresh-state.ensures _ c.offered-permitted.ensures in
    (search rules, refl, starts)

-- they do not
pub returns-in-Err : goal.returns-in-Err
returns-in-Err c =
    settled_exceeds c.args.table.now.indexed _ _ _ c.requires.area0_len.0
    (rw c.in-Err.is at c.resolve_last.ensures)
