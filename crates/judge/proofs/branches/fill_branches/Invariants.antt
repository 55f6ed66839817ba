-- The invariants and measures of `branches.fill_branches`.
use Prim.Native.Nat.{◌≤◌}
use Rattle.table_index.specs.Index.{table_in}
use Rattle.table_index.specs.Filling.{BranchesFilled}
use Rattle.judge.proofs.branches.fill_branches.Given as goal

abbrev pub invariant-loop-n : goal.invariant-loop-n
invariant-loop-n l = (l.from ≤ l.n) × (l.n ≤ l.to) × BranchesFilled (table_in l.list) l.initial.work l.work l.n l.to

abbrev pub decreases-loop-n : goal.decreases-loop-n
decreases-loop-n l = l.n
