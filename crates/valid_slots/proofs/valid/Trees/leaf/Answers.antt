-- `valid_slots::valid::Trees::leaf` meets its contract. Assumes nothing.
use mathlib.Core.Path.{refl}
use Rattle.valid_slots.specs.Walk.{with_leaf}
use Rattle.valid_slots.proofs.valid.Trees.leaf.Goals as goal

pub returns : goal.returns
unfolding with_leaf
returns c = refl
