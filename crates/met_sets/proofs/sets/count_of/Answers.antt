-- `met_sets::sets::count_of` meets its contract: the difference of two starts. Assumes nothing.
use native.Mathlib.Numerals.{add-one}
use mathlib.Core.Path.{refl}
use Rattle.met_sets.specs.Sets.{count_at}
use Rattle.met_sets.proofs.sets.count_of.Goals as goal

pub returns : goal.returns
unfolding count_at
returns c = rw add-one refl
