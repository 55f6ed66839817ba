-- `opener::open` meets its contract, by the table that was read. Assumes nothing.
use native.Mathlib.Omega.{arith}
use mathlib.Core.Path.{sym}
use Rattle.table_reading.specs.TableRead.Laws.{said_numbers, numbers_few}
use Rattle.line.specs.Answers.Opening.{opens_numbers, opens_refused}
use Rattle.line.proofs.opener.open.Goals as goal

pub slice_bounds-open_list-end : goal.slice_bounds-open_list-end
slice_bounds-open_list-end c =
    let args = c.args in
    let numbers = said_numbers args.input.now args.list.now args.area0.now args.area1.now
    args.work.now _ _ _ c.read_table.ensures _ c.in-Ok.is in
    omega (arith, numbers_few _ _ _ _ _ _ _ _ _ numbers)

pub slice_bounds-open_list-end-in-Ok : goal.slice_bounds-open_list-end-in-Ok
slice_bounds-open_list-end-in-Ok c =
    let args = c.args in
    let numbers = said_numbers args.input.now args.list.now args.area0.now args.area1.now
    args.work.now _ _ _ c.read_table.ensures _ c.in-Ok.is in
    sym (numbers_few _ _ _ _ _ _ _ _ _ numbers).1

-- the table is read
pub returns-in-Ok : goal.returns-in-Ok
returns-in-Ok c =
    let args = c.args in
    opens_numbers args.input.now args.list.now args.area0.now args.area1.now args.work.now
    _ _ _ c.read_table.ensures _ c.in-Ok.is c.open_list.result _ _ _
    c.open_list.ensures

-- it is refused
pub returns-in-Err : goal.returns-in-Err
returns-in-Err c =
    let args = c.args in
    opens_refused args.input.now args.list.now args.area0.now args.area1.now args.work.now
    _ _ _ c.read_table.ensures _ c.in-Err.is
