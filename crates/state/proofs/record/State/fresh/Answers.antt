-- `state::record::State::fresh` meets its contract: no event is taken, and the residuals are held. Assumes nothing.
use Rattle.state.specs.Record.Laws.{fresh_held}
use Rattle.state.proofs.record.State.fresh.Goals as goal

pub returns : goal.returns
returns c = fresh_held _ _ c.hold.ensures
