-- The invariants and measures of `rebuilding.rebuild`.
use mathlib.Core.Path.{◌≡◌}
use Prim.Native.Nat.{◌+◌, ◌-◌, ◌≤◌}
use lib.ListN.{length, get_or}
use Rattle.table_index.specs.Index.{table_in}
use Rattle.tree_ways.specs.Only.Rebuilding.{Rebuilding}
use Rattle.tree_moves.proofs.rebuilding.rebuild.Given as goal

abbrev pub invariant-loop-j : goal.invariant-loop-j
invariant-loop-j l =
    (l.j ≤ l.n) × (length l.slot ≡ 16) × (get_or l.slot 0 0 + (l.n - l.j) ≤ 15) × Rebuilding (table_in l.table.list.now) l.e l.area l.p l.n l.marks l.initial.slot
    l.slot l.m l.j
