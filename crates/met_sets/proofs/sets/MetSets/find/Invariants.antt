-- The invariants and measures of `MetSets.find`.
use Prim.Native.Nat.{◌≤◌}
use mathlib.Core.Path.{◌≡◌}
use lib.ListN.{take, drop}
use Rattle.met_sets.proofs.sets.MetSets.find.Given as goal

abbrev pub invariant-sets : goal.invariant-sets
invariant-sets l = l.i ≤ l.self.count

abbrev pub invariant-loop-j : goal.invariant-loop-j
invariant-loop-j l = (l.i ≤ l.self.count) × (take l.j (drop l.from l.self.sets) ≡ take l.j l.area)
