-- `resolving::leaves::same_at` meets its contract: slices are equal where their words are. Assumes nothing.
use mathlib.Core.Path.{◌∙◌}
use Rattle.resolving.specs.Distinct.Words.{same_slice}
use Rattle.resolving.proofs.leaves.same_at.Goals as goal

pub returns : goal.returns
returns c = c.eq.ensures ∙ same_slice _ _ _
