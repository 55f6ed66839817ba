-- The invariants and measures of `looking.repeats`.
use Prim.Native.Nat.{◌+◌, ◌-◌, ◌≤◌}
use Rattle.table_index.specs.Index.{table_in}
use Rattle.leaf_repeats.specs.Looking.{Looks}
use Rattle.leaf_repeats.proofs.looking.repeats.Given as goal

abbrev pub invariant-loop-x : goal.invariant-loop-x
invariant-loop-x l =
    (l.at ≤ l.p + l.n) × Looks (table_in l.table.list.now) l.bound l.e l.src l.at (l.p + l.n - l.at) l.x

abbrev pub decreases-loop-x : goal.decreases-loop-x
decreases-loop-x l = l.x
