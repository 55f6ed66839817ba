-- `wash_clock::clock::start_due` meets its contract. Assumes nothing.
use Rattle.wash_clock.proofs.clock.Tests.{due_none, due_changes}
use Rattle.wash_clock.proofs.clock.start_due.Goals as goal

pub returns-in-NotStarted : goal.returns-in-NotStarted
returns-in-NotStarted c = due_none _ _ _ c.in-NotStarted.is

pub returns-in-Started : goal.returns-in-Started
returns-in-Started c =
    due_changes _ _ _ _ _ c.in-Started.is _ c.changes.ensures
