-- The invariants and measures of `bytes.decode`.
use Prim.Native.Nat.{◌-◌}
use mathlib.Core.Path.{◌≡◌}
use lib.ListN.{length}
use Rattle.codec.proofs.bytes.Read.{Front}
use Rattle.codec.proofs.bytes.decode.Given as goal

abbrev pub invariant-loop-value : goal.invariant-loop-value
invariant-loop-value l = Front l.bytes l.out l.count l.next × (length l.out ≡ length l.initial.out)

abbrev pub decreases-loop-value : goal.decreases-loop-value
decreases-loop-value l = length l.bytes - l.next
