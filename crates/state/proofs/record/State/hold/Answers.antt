-- `state::record::State::hold` meets its contract, by whether a residual is held. Assumes nothing.
use native.Mathlib.Omega.{arith}
use Rattle.state.specs.Record.Laws.{none_held, some_held}
use Rattle.state.proofs.record.State.hold.Goals as goal

pub returns-then-count-eq0 : goal.returns-then-count-eq0
returns-then-count-eq0 c = none_held _ _ _ c.if-count-eq0.true c.fail.ensures

pub returns : goal.returns
returns c = some_held c.args.self _ _ c.if-count-eq0.false (omega (arith, c.max.ensures))
