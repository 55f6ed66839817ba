-- The invariants and measures of `slots.narrow`.
use Prim.Native.Nat.{◌-◌, ◌≤◌}
use mathlib.Core.Path.{◌≡◌}
use Rattle.slots.specs.Insertion.{halved, narrowed}
use Rattle.slots.proofs.slots.narrow.Given as goal

abbrev pub invariant-loop-middle : goal.invariant-loop-middle
invariant-loop-middle l =
    (l.low ≤ l.middle) × (l.low ≤ l.high) × (l.high ≤ l.count)
    × (halved (l.high - l.low) l.area l.slot l.low l.high l.middle ≡ narrowed l.count l.area l.slot)

abbrev pub decreases-loop-middle : goal.decreases-loop-middle
decreases-loop-middle l = l.high - l.low
