-- The invariants and measures of `resolve.pop_to`.
use Rattle.resolving.specs.ResidualWords.Popped.{Popping}
use Rattle.resolving.proofs.resolve.pop_to.Given as goal

abbrev pub invariant-loop-c : goal.invariant-loop-c
invariant-loop-c l = Popping l.initial.slot l.n l.slot l.c

abbrev pub decreases-loop-c : goal.decreases-loop-c
decreases-loop-c l = l.c
