-- `input::arrive` meets its contract: what `after_arrival` gives is what is promised. Assumes nothing.
use mathlib.Core.Path.{sym, subst}
use Rattle.input.specs.Arrival.{Arrives}
use Rattle.input.specs.Arrival.Laws.{arrives}
use Rattle.input.proofs.arrive.Goals as goal

pub returns : goal.returns
returns c = subst (Arrives _) (sym c.after_arrival.ensures) (arrives _ _)
