-- `wash_entering::entry::lent_fit` meets its contract. Assumes nothing.
use mathlib.Core.Path.{sym, ◌∙◌}
use Rattle.wash_entering.proofs.entry.lent_fit.Goals as goal

pub returns-then-lengths_fit : goal.returns-then-lengths_fit
returns-then-lengths_fit c =
    rw (sym c.lengths_fit.ensures ∙ c.if-lengths_fit.true)

pub returns : goal.returns
returns c =
    rw (sym c.lengths_fit.ensures ∙ c.if-lengths_fit.false)
