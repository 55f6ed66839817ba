-- `event_sets::rows::rows_of` meets its contract: the test says which case of `row_count` holds. Assumes nothing.
use Rattle.event_sets.proofs.rows.SetTurn.{count_one, count_each}
use Rattle.event_sets.proofs.rows.rows_of.Goals as goal

-- kind 0
pub returns-then-kind-eq0 : goal.returns-then-kind-eq0
returns-then-kind-eq0 c = count_one _ _ c.if-kind-eq0.true

-- kind 1
pub returns-else-kind-eq0 : goal.returns-else-kind-eq0
returns-else-kind-eq0 c = count_each _ _ c.if-kind-eq0.false
