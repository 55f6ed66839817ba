-- `state::record::State::take` meets its contract: one event more. Assumes nothing.
use native.Mathlib.Numerals.{add-one}
use Rattle.monitor_spec.specs.State.{counted}
use Rattle.state.proofs.record.State.take.Goals as goal

pub returns : goal.returns
unfolding counted
returns c = rw add-one
