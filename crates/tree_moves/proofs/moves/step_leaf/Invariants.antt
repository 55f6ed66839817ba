-- The invariants and measures of `moves.step_leaf`.
use Prim.Native.Nat.{◌*◌, ◌≤◌}
use mathlib.Core.Path.{◌≡◌}
use lib.ListN.{length}
use Rattle.table_index.specs.Index.{table_in}
use Rattle.tree_moves.specs.Moving.{stepped_leaf}
use Rattle.tree_moves.specs.Moving.Leaves.{leaf_left}
use Rattle.tree_moves.proofs.moves.step_leaf.Given as goal

abbrev pub invariant-loop-i : goal.invariant-loop-i
invariant-loop-i l =
    (length l.dst ≡ length l.initial.dst) × (l.c * 16 ≤ length l.dst) × (leaf_left (table_in l.table.list.now) l.e l.src l.p l.n l.also l.initial.slot l.dst l.c l.i ≡
    stepped_leaf (table_in l.table.list.now) l.e l.src l.p l.n l.also l.initial.slot l.initial.dst l.count) × (l.slot ≡ l.initial.slot)
