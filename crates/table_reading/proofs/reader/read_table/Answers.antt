-- `reader::read_table` meets its contract: lent lengths are tried first, then the head; the table's bytes lie within
-- the input, and Read judges them. Assumes nothing.
use mathlib.Core.Path.{sym, ◌∙◌}
use Rattle.table.proofs.Passed.{passed}
use Rattle.table_reading.specs.TableRead.{TableSaid}
use Rattle.table_reading.specs.TableRead.Laws.{read_unfit_lem, read_wrong, read_count, read_refused}
use Rattle.table_reading.proofs.reader.read_table.Goals as goal

-- a lent length is wrong
pub returns-then-not-lent_fit : goal.returns-then-not-lent_fit
returns-then-not-lent_fit c =
    let args = c.args in
    read_unfit_lem args.input.now args.list.now args.area0.now args.area1.now args.work.now
    (sym c.lent_fit.ensures ∙ c.if-not-lent_fit.true)

-- the head is wrong
pub returns-in_err-bytes : goal.returns-in_err-bytes
returns-in_err-bytes c =
    let args = c.args in
    passed (λ r. TableSaid args.input.now args.list.now args.area0.now args.area1.now args.work.now r args.list.now
    args.work.now) _ _ c.from_residual.ensures.1
    (read_wrong args.input.now args.list.now args.area0.now args.area1.now args.work.now
    (sym c.lent_fit.ensures ∙ c.if-not-lent_fit.false) _ c.head.ensures _ c.in_err-bytes.was)

-- Read refused
pub returns-in_err-count : goal.returns-in_err-count
returns-in_err-count c =
    let args = c.args in
    passed (λ r. TableSaid args.input.now args.list.now args.area0.now args.area1.now args.work.now r c.read.new.out
    c.read.new.work) _ _ c.from_residual-in_err-count.ensures.1
    (read_refused args.input.now args.list.now args.area0.now args.area1.now args.work.now
    (sym c.lent_fit.ensures ∙ c.if-not-lent_fit.false) _ c.head.ensures _ c.in_ok-bytes.was _ _ _ c.read.ensures _
    c.in_err-count.was)

-- Read gave a count
pub returns : goal.returns
returns c =
    let args = c.args in
    read_count args.input.now args.list.now args.area0.now args.area1.now args.work.now
    (sym c.lent_fit.ensures ∙ c.if-not-lent_fit.false) _ c.head.ensures _ c.in_ok-bytes.was _ _ _ c.read.ensures _
    c.in_ok-count.was
