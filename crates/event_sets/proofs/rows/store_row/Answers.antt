-- `event_sets::rows::store_row` meets its contract: the test says which case of `row_stored` holds. Assumes nothing.
use native.Mathlib.Omega.{arith}
use lib.ListN.{length-set}
use Rattle.table_index.specs.Parse.Rows.{stored_one, stored_two}
use Rattle.event_sets.proofs.rows.store_row.Goals as goal

pub bounds-work-row-then-alphabet-gt-LARGE_ABOVE : goal.bounds-work-row-then-alphabet-gt-LARGE_ABOVE
bounds-work-row-then-alphabet-gt-LARGE_ABOVE c = simp length-set (omega arith)

-- two words
pub returns-then-alphabet-gt-LARGE_ABOVE : goal.returns-then-alphabet-gt-LARGE_ABOVE
returns-then-alphabet-gt-LARGE_ABOVE c = stored_two _ _ _ _ _ c.if-alphabet-gt-LARGE_ABOVE.true

-- one
pub returns-else-alphabet-gt-LARGE_ABOVE : goal.returns-else-alphabet-gt-LARGE_ABOVE
returns-else-alphabet-gt-LARGE_ABOVE c = stored_one _ _ _ _ _ (omega arith)
