-- `valid_slots::valid::below` meets its contract: std's `<` is the order by first differing word. Assumes nothing.
use mathlib.Core.Path.{◌∙◌}
use Rattle.valid_slots.proofs.valid.Order.{before_is}
use Rattle.valid_slots.proofs.valid.below.Goals as goal

pub returns : goal.returns
returns c = c.lt.ensures ∙ before_is _ _
