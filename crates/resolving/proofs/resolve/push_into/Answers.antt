-- `resolving::resolve::push_into` meets its contract: two stores, as in the definition. Assumes nothing.
use mathlib.Core.Path.{refl}
use Rattle.resolving.specs.ResidualWords.{pushed}
use Rattle.resolving.proofs.resolve.push_into.Goals as goal

pub returns : goal.returns
unfolding pushed
returns c = refl
