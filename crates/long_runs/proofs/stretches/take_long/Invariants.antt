-- The invariants and measures of `stretches.take_long`.
use Prim.Native.Nat.{◌-◌, ◌^◌, ◌<◌, ◌≤◌}
use mathlib.Core.Path.{◌≡◌}
use lib.ListN.{length}
use Rattle.table_index.specs.Index.{table_in}
use Rattle.leaf_memo.specs.Memo.{StoreOf}
use Rattle.state.specs.Record.{monitor_of}
use Rattle.taking.specs.Runs.{ReachedAt}
use Rattle.long_runs.proofs.stretches.take_long.Given as goal

abbrev pub invariant-loop-i : goal.invariant-loop-i
invariant-loop-i l =
    (l.from ≤ l.i) × (l.i ≤ length l.events) × (length l.events < 2 ^ 64) × (length l.area0 ≡ length l.initial.area0)
    × (length l.area1 ≡ length l.initial.area1) × StoreOf (table_in l.table.list.now) l.store
    × ReachedAt (table_in l.table.list.now) (monitor_of l.initial.reached l.initial.area0 l.initial.area1) l.events l.from (monitor_of l.reached l.area0 l.area1) l.i

abbrev pub decreases-loop-i : goal.decreases-loop-i
decreases-loop-i l = length l.events - l.i
