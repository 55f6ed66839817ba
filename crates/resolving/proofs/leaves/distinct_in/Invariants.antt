-- The invariants and measures of `leaves.distinct_in`.
use Prim.Native.Nat.{◌+◌, ◌*◌, ◌^◌, ◌<◌, ◌≤◌, ◌-◌}
use mathlib.Core.Path.{◌≡◌}
use lib.ListN.{length}
use Rattle.table_index.specs.Index.{table_in}
use Rattle.node_word.specs.Word.{memory_of}
use Rattle.residuals.specs.Residual.{resolve}
use Rattle.resolving.specs.Distinct.{slot_at}
use Rattle.resolving.specs.Distinct.Keeping.{Head}
use Rattle.resolving.proofs.leaves.distinct_in.Given as goal

abbrev pub invariant-loop-i : goal.invariant-loop-i
invariant-loop-i l =
    (l.i ≤ l.c) × (l.c ≡ length (resolve (table_in l.table.list.now) l.n (memory_of l.m))) × (length l.indices ≡ length l.initial.indices)
    × (length l.keys ≡ length l.initial.keys) × (length l.slots ≡ length l.initial.slots) × (l.at + l.c ≤ length l.indices) × (l.c ≤ length l.keys)
    × (128 ≤ length l.slots) × (l.k ≤ l.i) × (length l.indices * 8 < 2 ^ 64) × (length l.keys * 8 < 2 ^ 64)
    × Head (slot_at (table_in l.table.list.now) l.n (memory_of l.m)) (length (resolve (table_in l.table.list.now) l.n (memory_of l.m))) l.initial.indices l.indices l.at l.k
    l.i l.keys l.slots
