-- `event_sets::rows::read_row` meets its contract. The loop's invariant: the first j events are read, and `low`,
-- `high` and `least` are theirs (`Head` of RowTurn). Assumes nothing.
use native.Mathlib.Omega.{arith}
use Rattle.table.proofs.Passed.{passed_none}
use Rattle.table_index.specs.Parse.{RowRead}
use Rattle.event_sets.proofs.rows.RowTurn.{row_short, row_off, head_first, head_next, head_done}
use Rattle.event_sets.proofs.rows.RowTurn.{head_short, head_low, head_high, first_fits, second_fits}
use Rattle.event_sets.proofs.rows.read_row.Goals as goal

-- there is no count
pub returns-in_err-count : goal.returns-in_err-count
returns-in_err-count c =
    let e = c.in_err-count.ensures in
    passed_none (RowRead _ _ _) _ _ _ _ c.from_residual.ensures.1 e (row_short _ _ _ (omega arith) e.beyond)

-- a count above the size of the alphabet
pub returns-then-alphabet-count : goal.returns-then-alphabet-count
returns-then-alphabet-count c =
    let n = c.in_ok-count.ensures in
    row_off _ _ _ n.within (omega (arith, n.same))

pub loop-j-init : goal.loop-j-init
loop-j-init c =
    let n = c.in_ok-count.ensures in
    (head_first _ _ _ _ n.same n.within (omega arith), omega arith)

-- the list ends before an event
pub returns-in_err-e : goal.returns-in_err-e
returns-in_err-e c =
    let e = c.in_err-e.ensures in
    passed_none (RowRead _ _ _) _ _ _ _ c.from_residual-in_err-e.ensures.1 e
    (head_short c.loop-j.invariant.0 (omega arith) e.beyond)

-- an event that does not ascend
pub returns-then-e-least : goal.returns-then-e-least
returns-then-e-least c =
    let n = c.in_ok-e.ensures in
    head_low c.loop-j.invariant.0 (omega arith) n.within (omega (arith, n.same))

-- an event outside the alphabet
pub returns-then-alphabet-e : goal.returns-then-alphabet-e
returns-then-alphabet-e c =
    let n = c.in_ok-e.ensures in
    head_high c.loop-j.invariant.0 (omega arith) n.within (omega (arith, n.same)) (omega (arith, n.same))

pub overflow_add-low : goal.overflow_add-low
overflow_add-low c =
    let head = c.loop-j.invariant.0 in
    record { fits = first_fits head _ _ c.low_bit-low.ensures (omega arith) }

pub overflow_add-high : goal.overflow_add-high
overflow_add-high c =
    let head = c.loop-j.invariant.0 in
    record { fits = second_fits head _ _ c.high_bit-high.ensures (omega arith) (omega arith) }

pub loop-j-preserved : goal.loop-j-preserved
loop-j-preserved c =
    let n = c.in_ok-e.ensures in
    let head = c.loop-j.invariant.0 in (
      head_next head _ _ _ n.same c.low_bit-low.ensures c.high_bit-high.ensures (omega arith) n.within
          (omega arith) (omega arith),
      omega arith,
    )

-- all events are read
pub returns : goal.returns
returns c = head_done c.loop-j.invariant.0 (omega arith)
