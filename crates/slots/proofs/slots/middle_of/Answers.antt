-- `slots::slots::middle_of` meets its contract: by how many slots are left. Assumes nothing.
use native.Mathlib.Omega.{arith}
use Rattle.slots.proofs.Insertion.Narrow.{middle_half, middle_none}
use Rattle.slots.proofs.slots.middle_of.Goals as goal

pub returns-then-high-low-gt4 : goal.returns-then-high-low-gt4
returns-then-high-low-gt4 c = middle_half _ _ (omega arith)

pub returns : goal.returns
returns c = middle_none _ _ (omega arith)
