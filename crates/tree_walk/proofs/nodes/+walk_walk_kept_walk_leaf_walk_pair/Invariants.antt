-- The invariants and measures of `nodes.+walk_walk_kept_walk_leaf_walk_pair`.
use Prim.Native.Nat.{◌+◌, ◌-◌, ◌*◌, ◌≤◌}
use mathlib.Core.Path.{◌≡◌}
use lib.ListN.{length}
use Rattle.table_index.specs.Index.{table_in}
use Rattle.tree_walk.specs.Course.{leaf_rest}
use Rattle.tree_walk.proofs.nodes.+walk_walk_kept_walk_leaf_walk_pair.Given as goal

abbrev pub decreases-walk : goal.decreases-walk
decreases-walk l = (16 - l.k) * 3 + 2

abbrev pub decreases-walk_kept : goal.decreases-walk_kept
decreases-walk_kept l = (16 - l.k) * 3

abbrev pub decreases-walk_leaf : goal.decreases-walk_leaf
decreases-walk_leaf l = (16 - l.k) * 3 + 1

abbrev pub invariant-walk_leaf-loop-j : goal.invariant-walk_leaf-loop-j
invariant-walk_leaf-loop-j l =
    (l.slot ≡ l.initial.slot) × (l.j ≤ l.f) × (length l.area ≡ length l.initial.area) × (l.c * 16 ≤ length l.area)
    × (leaf_rest (table_in l.table.list.now) l.e l.store l.k l.rest l.initial.slot l.area l.c l.j ≡ leaf_rest (table_in l.table.list.now) l.e l.store l.k l.rest l.initial.slot l.initial.area l.count
    0)

abbrev pub decreases-walk_pair : goal.decreases-walk_pair
decreases-walk_pair l = (16 - l.k) * 3 + 1
