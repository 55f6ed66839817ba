-- The invariants and measures of `slots.store`.
use mathlib.Core.Path.{◌≡◌}
use Rattle.slots.specs.Insertion.{stored}
use Rattle.slots.proofs.slots.store.Given as goal

abbrev pub invariant-loop-j : goal.invariant-loop-j
invariant-loop-j l = l.area ≡ stored l.initial.area l.p l.slot l.j
