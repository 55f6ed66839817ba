-- The invariants and measures of `slots.move_up`.
use mathlib.Core.Path.{◌≡◌}
use lib.ListN.{length}
use Rattle.slots.specs.Insertion.{gapped}
use Rattle.slots.proofs.slots.move_up.Given as goal

abbrev pub invariant-loop-k : goal.invariant-loop-k
invariant-loop-k l = (length l.words ≡ length l.initial.words) × (l.words ≡ gapped l.initial.words l.k l.n)
