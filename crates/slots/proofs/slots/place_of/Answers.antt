-- `slots::slots::place_of` meets its contract: the search begins where halving ends. Assumes nothing.
use native.Mathlib.Omega.{arith}
use mathlib.Core.Path.{ap, ◌∙◌, refl}
use Rattle.slots.specs.Insertion.{place_in}
use Rattle.slots.proofs.Insertion.Narrow.{narrow_bound}
use Rattle.slots.proofs.slots.place_of.Goals as goal

pub find_place-requires : goal.find_place-requires
find_place-requires c = (c.requires.0, c.requires.1, rw c.narrow-from.ensures (narrow_bound _ _ _))

pub returns : goal.returns
unfolding place_in
returns c = rw (← c.narrow-from.ensures) c.find_place.ensures
