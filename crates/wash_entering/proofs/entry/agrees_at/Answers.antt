-- `wash_entering::entry::agrees_at` meets its contract. Assumes nothing.
use mathlib.Core.Path.{sym, ◌∙◌}
use Rattle.wash_entering.proofs.entry.Agreeing.{agreed_wash, agreed_everyday}
use Rattle.wash_entering.proofs.entry.agrees_at.Goals as goal

pub returns-then-in_force : goal.returns-then-in_force
returns-then-in_force c =
    agreed_wash _ _ _ _ _ _ _ _ _ (sym c.in_force.ensures ∙ c.if-in_force.true)
    c.consistent.ensures c.requires.list_accepted.1

pub returns : goal.returns
returns c =
    agreed_everyday _ _ _ _ _ _ _ _ _ (sym c.in_force.ensures ∙ c.if-in_force.false)
    c.consistent-2.ensures c.stand.ensures
