-- `event_sets::rows::read_set` meets its contract: the kind's tests, and then its rows, say what the parser gives.
-- Assumes nothing.
use native.Mathlib.Omega.{arith}
use mathlib.Core.Path.{refl}
use Rattle.std.specs.declared.result.Result.TheVariants.{Err}
use Rattle.table.proofs.Passed.{passed, passed_none}
use Rattle.table_index.specs.Parse.{SetRead}
use Rattle.event_sets.proofs.rows.SetTurn.{count_few, rows_room, not_over, is_over, rows_fit_lem}
use Rattle.event_sets.proofs.rows.SetTurn.{set_short, set_off, set_over, set_stop, set_found}
use Rattle.event_sets.proofs.rows.read_set.Goals as goal

-- there is no kind
pub returns-in_err-kind : goal.returns-in_err-kind
returns-in_err-kind c =
    let e = c.in_err-kind.ensures in
    passed_none (SetRead _ _ _ _ _ _) _ _ _ _ c.from_residual.ensures.1 e
    (set_short _ _ _ _ (omega arith) e.beyond, refl)

-- a kind that is none
pub returns-then-kind-gt1 : goal.returns-then-kind-gt1
returns-then-kind-gt1 c =
    let n = c.in_ok-kind.ensures in
    (set_off _ _ _ _ n.within (omega (arith, n.same)), refl)

pub overflow_add-row : goal.overflow_add-row
overflow_add-row c = omega (arith, count_few _ _ _ c.rows_of-count.ensures (omega arith))

-- too many rows
pub returns-then-rows_over : goal.returns-then-rows_over
returns-then-rows_over c =
    let n = c.in_ok-kind.ensures in
    let over = is_over _ _ c.rows_over.ensures c.if-rows_over.true in
    (set_over _ _ _ _ _ n.same n.within (omega arith) _ c.rows_of-count.ensures over, refl)

pub read_rows-requires : goal.read_rows-requires
read_rows-requires c =
    let count = c.rows_of-count.ensures in
    let fits = not_over _ _ c.rows_over.ensures c.if-rows_over.false in
    let fit = rows_fit_lem _ _ fits in
    let few = count_few _ _ _ count (omega arith) in
    let room = rows_room _ c.args.row _ few c.requires.large_above_bound fit in
    record {
      alphabet_le_alphabet_most = (omega arith, omega (arith, c.in_ok-kind.ensures.within));
      count_bound = (room, omega arith);
      rows_fit = fit;
    }

pub overflow_add-result : goal.overflow_add-result
overflow_add-result c =
    let count = c.rows_of-count.ensures in
    omega (arith, count_few _ _ _ count (omega arith))

-- the rows are read
pub returns : goal.returns
returns c =
    let n = c.in_ok-kind.ensures in
    let count = c.rows_of-count.ensures in
    let fits = not_over _ _ c.rows_over.ensures c.if-rows_over.false in
    let few = count_few _ _ _ count (omega arith) in
    let fit = rows_fit_lem _ _ fits in
    let room = rows_room _ c.args.row _ few c.requires.large_above_bound fit in
    rw c.from.ensures
    (set_found _ _ _ _ _ n.same n.within (omega arith) _ count fits _ _ _ _ c.in_ok-next.was
    c.read_rows.ensures (omega arith) room)

-- the rows are refused
pub returns-in_err-next : goal.returns-in_err-next
returns-in_err-next c =
    let n = c.in_ok-kind.ensures in
    let count = c.rows_of-count.ensures in
    let fits = not_over _ _ c.rows_over.ensures c.if-rows_over.false in
    passed (SetRead _ _ _ _ _ _) _ _ c.from_residual-in_err-next.ensures.1
    (set_stop _ _ _ _ _ n.same n.within (omega arith) _ count fits _ _ _ (Err _) refl c.in_err-next.ensures)
