-- `event_sets::rows::read_rows` meets its contract. The loop's invariant: j rows are read and their words stored
-- (`Head` of RowsTurn), and what the function requires. Assumes nothing.
use native.Mathlib.Omega.{arith}
use mathlib.Core.Path.{refl}
use Rattle.std.specs.declared.result.Result.TheVariants.{Err}
use Rattle.table.proofs.Passed.{passed}
use Rattle.table_index.specs.Parse.{RowsRead}
use Rattle.event_sets.proofs.rows.RowsTurn.{head_first, head_next, head_done, head_stop}
use Rattle.event_sets.proofs.rows.read_rows.Goals as goal

pub loop-j-init : goal.loop-j-init
loop-j-init c =
    let fit = c.requires.rows_fit in
    (head_first _ _ _ _ _ _ (omega arith), omega arith, omega arith, omega arith, fit)

pub loop-j-preserved : goal.loop-j-preserved
loop-j-preserved c =
    let inv = c.loop-j.invariant in
    let told = c.read_row.ensures in
    let is = c.in_ok-read.was in
    let stored = c.store_row.ensures in (
      head_next inv.0 _ _ _ _ is told stored (omega arith) refl inv.3 inv.2 inv.4,
      inv.1,
      inv.2,
      inv.3,
      inv.4,
    )

-- a row is refused
pub returns-in_err-read : goal.returns-in_err-read
returns-in_err-read c =
    let head = c.loop-j.invariant.0 in
    passed (RowsRead _ _ _ _ _ _ _) _ _ c.from_residual.ensures.1
    (head_stop head _ (Err _) refl c.in_err-read.ensures (omega arith), head.words.same)

-- all rows are read
pub returns : goal.returns
returns c = head_done c.loop-j.invariant.0 (omega arith)
