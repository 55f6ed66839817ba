-- `slots::slots::compare` meets its contract: slices compare by their first differing words. Assumes nothing.
use native.Mathlib.Omega.{arith}
use mathlib.Core.Path.{refl}
use Rattle.slots.proofs.Insertion.Compare.{compare_slot}
use Rattle.slots.proofs.slots.compare.Goals as goal

pub returns : goal.returns
returns c = compare_slot _ _ _ _ _ (omega arith) (omega arith) refl c.cmp.ensures
