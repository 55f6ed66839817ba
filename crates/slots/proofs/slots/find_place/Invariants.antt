-- The invariants of `slots.find_place`.
use Prim.Native.Nat.{◌+◌, ◌-◌, ◌*◌, ◌≤◌}
use mathlib.Core.Path.{◌≡◌}
use Rattle.slots.specs.Insertion.{order, seek}
use Rattle.slots.proofs.slots.find_place.Given as goal

abbrev pub invariant-loop-j : goal.invariant-loop-j
invariant-loop-j l =
    (order (16 - l.j) l.area (l.i * 16 + l.j) l.slot l.j ≡ order 16 l.area (l.i * 16) l.slot 0)
    × (seek (l.count - l.i) l.area l.slot l.i ≡ seek (l.count - l.from) l.area l.slot l.from)

abbrev pub invariant-slots : goal.invariant-slots
invariant-slots l = seek (l.count - l.i) l.area l.slot l.i ≡ seek (l.count - l.from) l.area l.slot l.from
