-- `resolving::resolve::pop_to` meets its contract: the words from c on are taken off, and c falls to n.
-- Assumes nothing.
use native.Mathlib.Omega.{arith}
use Rattle.resolving.specs.ResidualWords.Popped.{popping_first, popping_next, popping_last}
use Rattle.resolving.proofs.resolve.pop_to.Goals as goal

pub loop-c-init : goal.loop-c-init
loop-c-init c = popping_first _ _ c.requires.1

pub loop-c-preserved : goal.loop-c-preserved
loop-c-preserved c = popping_next _ _ _ _ c.loop-c.invariant (omega arith)

pub returns : goal.returns
returns c = popping_last _ _ _ _ c.loop-c.invariant (omega arith)
