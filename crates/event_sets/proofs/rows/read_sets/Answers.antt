-- `event_sets::rows::read_sets` meets its contract. The loop's invariant: s sets are read and indexed (`Head` of
-- SetsTurn), and the alphabet's bounds. Assumes nothing.
use native.Mathlib.Omega.{arith}
use mathlib.Core.Path.{refl}
use Rattle.std.specs.declared.result.Result.TheVariants.{Err}
use Rattle.table.proofs.Passed.{passed}
use Rattle.table_index.specs.Parse.{SetsRead}
use Rattle.event_sets.proofs.rows.SetsTurn.{head_first, head_room, head_next, head_fits, head_done}
use Rattle.event_sets.proofs.rows.SetsTurn.{head_stop}
use Rattle.event_sets.proofs.rows.read_sets.Goals as goal

pub loop-s-init : goal.loop-s-init
loop-s-init c = (head_first _ _ _ _ _ (omega arith) (omega arith) (omega arith), omega arith, omega arith)

pub read_set-requires : goal.read_set-requires
read_set-requires c =
    let head = c.loop-s.invariant.0 in
    record {
      le_alphabet = (omega arith, omega arith, omega arith);
      row_le_rows_most = (omega arith, omega arith);
      large_above_bound = head_room head (omega arith);
    }

pub overflow_add-work : goal.overflow_add-work
overflow_add-work c =
    let head = c.loop-s.invariant.0 in
    let told = c.read_set.ensures in
    omega (arith, head_fits head _ _ _ c.in_ok-set.was told)

pub loop-s-preserved : goal.loop-s-preserved
loop-s-preserved c =
    let head = c.loop-s.invariant.0 in
    let told = c.read_set.ensures in (
      head_next head _ _ _ _ c.in_ok-set.was told (omega arith) refl,
      omega arith,
      omega arith,
    )

-- a set is refused
pub returns-in_err-set : goal.returns-in_err-set
returns-in_err-set c =
    passed (SetsRead _ _ _ _ _ _) _ _ c.from_residual.ensures.1
    (head_stop c.loop-s.invariant.0 _ _ (Err _) refl c.in_err-set.ensures (omega arith))

-- all sets are read
pub returns : goal.returns
returns c = head_done c.loop-s.invariant.0 (omega arith)
