-- `event_sets::rows::rows_over` meets its contract: the tests say which case of `rows_fit` holds. Assumes nothing.
use Rattle.event_sets.proofs.rows.SetTurn.{over_small, over_large}
use Rattle.event_sets.proofs.rows.rows_over.Goals as goal

-- at most 64 events
pub returns-then-alphabet-le-LARGE_ABOVE : goal.returns-then-alphabet-le-LARGE_ABOVE
returns-then-alphabet-le-LARGE_ABOVE c = over_small _ _ c.if-alphabet-le-LARGE_ABOVE.true

-- more than 64
pub returns : goal.returns
returns c = over_large _ _ c.if-alphabet-le-LARGE_ABOVE.false
