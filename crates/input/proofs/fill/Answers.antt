-- `input::fill` meets its contract: reading on goes further, and what a read leaves in the end is what is promised.
-- Assumes nothing.
use native.Mathlib.Omega.{arith}
use Rattle.std.specs.Prelude.{Ok}
use Rattle.std.proofs.Common.{ap}
use mathlib.Core.Path.{sym, ◌∙◌}
use Rattle.input.specs.Reading.Laws.{more_grows, done_fills}
use Rattle.input.proofs.fill.Goals as goal

pub loop-next-smaller : goal.loop-next-smaller
loop-next-smaller c =
    let grows = more_grows _ _ _ _ (sym c.in_ok-next.ensures ∙ ap Ok c.in-Continue.is) in
    omega arith

pub loop-next-preserved : goal.loop-next-preserved
loop-next-preserved c =
    let grows = more_grows _ _ _ _ (sym c.in_ok-next.ensures ∙ ap Ok c.in-Continue.is) in
    omega arith

pub returns-in-Break : goal.returns-in-Break
returns-in-Break c = done_fills _ _ _ _ (sym c.in_ok-next.ensures ∙ ap Ok c.in-Break.is)
