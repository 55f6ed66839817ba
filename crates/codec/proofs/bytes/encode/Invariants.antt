-- The invariant of `bytes.encode`.
use mathlib.Core.Path.{◌≡◌}
use lib.ListN.{length}
use Rattle.codec.proofs.bytes.Written.{OutputFilled}
use Rattle.codec.proofs.bytes.encode.Given as goal

abbrev pub invariant-loop-i : goal.invariant-loop-i
invariant-loop-i l = OutputFilled l.list l.initial.out l.out l.i l.p × (length l.out ≡ length l.initial.out)
