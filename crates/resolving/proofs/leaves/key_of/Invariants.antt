-- The invariants of `leaves.key_of`.
use mathlib.Core.Path.{◌≡◌}
use lib.ListN.{length, drop}
use Rattle.resolving.specs.Distinct.{key_from}
use Rattle.resolving.proofs.leaves.key_of.Given as goal

abbrev pub invariant-loop-w : goal.invariant-loop-w
invariant-loop-w l = key_from l.key (drop l.w-index l.slot) ≡ key_from 0 l.slot
