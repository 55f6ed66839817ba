-- The invariants and measures of `reader.read_front`.
use Prim.Native.Nat.{◌-◌}
use mathlib.Core.Path.{◌≡◌}
use lib.ListN.{length}
use Rattle.trace_front.specs.Front.{Held}
use Rattle.trace_front.proofs.reader.read_front.Given as goal

abbrev pub invariant-loop-n : goal.invariant-loop-n
invariant-loop-n l = (length l.front ≡ 16387) × Held l.front l.n

abbrev pub decreases-loop-n : goal.decreases-loop-n
decreases-loop-n l = 16387 - l.n
