-- `lines::conclude` meets its contract, by the verdict. Assumes nothing.
use Rattle.format.specs.Line.Laws.{state_running, state_failed}
use Rattle.format.proofs.lines.conclude.Goals as goal

pub returns-in-Running : goal.returns-in-Running
returns-in-Running c = state_running _ c.in-Running.is

pub returns-in-Failed : goal.returns-in-Failed
returns-in-Failed c = state_failed _ _ c.in-Failed.is
