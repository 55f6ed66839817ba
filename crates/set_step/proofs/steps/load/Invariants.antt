-- The invariants and measures of `steps.load`.
use mathlib.Core.Path.{◌≡◌}
use lib.ListN.{take, drop}
use Rattle.resolving.specs.Distinct.{window}
use Rattle.set_step.proofs.steps.load.Given as goal

abbrev pub invariant-loop-j : goal.invariant-loop-j
invariant-loop-j l = (take l.j l.store ≡ window l.p l.j l.src) × (drop 16 l.store ≡ drop 16 l.initial.store)
