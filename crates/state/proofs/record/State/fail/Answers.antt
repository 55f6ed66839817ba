-- `state::record::State::fail` meets its contract, by the verdict. Assumes nothing.
use Rattle.state.specs.Record.Laws.{none_running, none_failed}
use Rattle.state.proofs.record.State.fail.Goals as goal

pub returns-in-Running : goal.returns-in-Running
returns-in-Running c = none_running c.args.self c.in-Running.is

pub returns-in-Failed : goal.returns-in-Failed
returns-in-Failed c = none_failed c.args.self _ c.in-Failed.is
