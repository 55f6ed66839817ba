-- The invariants and measures of `looking.few`.
use Prim.Native.Nat.{◌-◌, ◌≤◌}
use mathlib.Core.Path.{◌≡◌}
use lib.ListN.{length}
use Rattle.resolving.specs.Distinct.{empty}
use Rattle.leaf_repeats.proofs.looking.few.Given as goal

abbrev pub invariant-loop-i : goal.invariant-loop-i
invariant-loop-i l =
    (l.k ≤ 13) × (length l.keys ≡ 13) × (l.none ≡ empty)
