-- `wash_entering::entry::agrees` meets its contract. Assumes nothing.
use Rattle.wash_entering.proofs.entry.Agreeing.{agreed_none, agreed_started}
use Rattle.wash_entering.proofs.entry.agrees.Goals as goal

pub returns-in-NotStarted : goal.returns-in-NotStarted
returns-in-NotStarted c =
    agreed_none _ _ _ _ _ _ _ _ c.in-NotStarted.is c.fresh.result
    c.fresh.ensures c.consistent.ensures

pub returns-in-Started : goal.returns-in-Started
returns-in-Started c =
    agreed_started _ _ _ _ _ _ _ _ _ _ c.in-Started.is c.agrees_at.ensures
