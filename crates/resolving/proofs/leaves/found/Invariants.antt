-- The invariants and measures of `leaves.found`.
use Prim.Native.Nat.{◌≤◌, ◌+◌, ◌-◌}
use mathlib.Core.Path.{◌≡◌}
use Rattle.table_index.specs.Index.{table_in}
use Rattle.node_word.specs.Word.{memory_of}
use Rattle.resolving.specs.Distinct.{window, is_kept, slot_at}
use Rattle.resolving.proofs.leaves.found.Given as goal

abbrev pub invariant-loop-j : goal.invariant-loop-j
invariant-loop-j l =
    (l.j ≤ l.k) × (is_kept (slot_at (table_in l.table.list.now) l.n (memory_of l.m)) (window (l.at + l.j) (l.k - l.j) l.indices) l.slot
    ≡ is_kept (slot_at (table_in l.table.list.now) l.n (memory_of l.m)) (window l.at l.k l.indices) l.slot)
