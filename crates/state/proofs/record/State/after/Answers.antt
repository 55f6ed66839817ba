-- `state::record::State::after` meets its contract: where the counter is full the record stays; else one event more is
-- taken, and the residuals are held. Assumes nothing.
use Rattle.state.specs.Record.{state_of}
use Rattle.state.specs.Record.Laws.{succeeding_full, after_held}
use Rattle.state.proofs.record.State.after.Goals as goal

-- the counter is full
pub returns-then-self-eq18446744073709551615 : goal.returns-then-self-eq18446744073709551615
returns-then-self-eq18446744073709551615 c = succeeding_full (state_of c.args.self) _ c.if-self-eq18446744073709551615.true

-- the event is counted
pub returns : goal.returns
returns c = after_held _ _ _ _ c.if-self-eq18446744073709551615.false c.take.ensures c.hold.ensures
