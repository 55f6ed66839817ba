-- `wash_clock::clock::clock_back` meets its contract. Assumes nothing.
use mathlib.Core.Path.{◌∙◌}
use borrow.Author.Tests.{lt-ltb}
use Rattle.wash_clock.proofs.clock.Tests.{back_none, back_below, back_bound}
use Rattle.wash_clock.proofs.clock.clock_back.Goals as goal

pub returns-then-minute-last : goal.returns-then-minute-last
returns-then-minute-last c =
    lt-ltb _ _ c.if-minute-last.true ∙ back_below _ _ _ _ c.in-Started.is c.if-minute-last.true

pub returns-in-NotStarted : goal.returns-in-NotStarted
returns-in-NotStarted c = back_none _ _ c.in-NotStarted.is

pub returns-else-minute-last : goal.returns-else-minute-last
returns-else-minute-last c =
    back_bound _ _ _ _ c.in-Started.is c.if-minute-last.false
