-- `reads::after_arrived` meets its contract, by what arrived. Assumes nothing.
use mathlib.Core.Path.{ap, ◌∙◌}
use Rattle.std.specs.Prelude.{Ok}
use Rattle.course_spec.specs.Course.Laws.{arrived_bytes, arrived_ended, arrived_broken}
use Rattle.arrivals.proofs.reads.after_arrived.Goals as goal

pub returns-in-Continue : goal.returns-in-Continue
returns-in-Continue c =
    arrived_bytes _ _ _ _ _ _ _ _ _ (c.in-Ok.is ∙ ap Ok c.in-Continue.is) _ c.take_read.ensures

pub returns-in-Break : goal.returns-in-Break
returns-in-Break c = arrived_ended _ _ _ _ _ _ _ _ _ (c.in-Ok.is ∙ ap Ok c.in-Break.is)

pub returns-in-Err : goal.returns-in-Err
returns-in-Err c = arrived_broken _ _ _ _ _ _ _ _ _ c.in-Err.is
