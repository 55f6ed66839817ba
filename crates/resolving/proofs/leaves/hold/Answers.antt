-- `resolving::leaves::hold` meets its contract, by cases. Assumes nothing.
use native.Mathlib.Omega.{arith}
use Rattle.resolving.specs.Distinct.Words.{hold_first, hold_none}
use Rattle.resolving.proofs.leaves.hold.Goals as goal

pub returns-then-k-lt8 : goal.returns-then-k-lt8
returns-then-k-lt8 c = hold_first _ _ _ _ c.store.ensures (omega arith)

pub returns-else-k-lt8 : goal.returns-else-k-lt8
returns-else-k-lt8 c = hold_none _ _ _ (omega arith)
