-- The invariants and measures of `steps.step_set`.
use mathlib.Core.Path.{◌≡◌}
use Prim.Native.Nat.{◌*◌, ◌≤◌}
use lib.ListN.{length}
use Rattle.table_index.specs.Index.{table_in}
use Rattle.leaf_memo.specs.Memo.{StoreOf}
use Rattle.set_step.specs.Stepped.Laws.{Gathering}
use Rattle.set_step.proofs.steps.step_set.Given as goal

abbrev pub invariant-loop-i : goal.invariant-loop-i
invariant-loop-i l =
    (l.i ≤ l.n) × StoreOf (table_in l.table.list.now) l.store × (length l.dst ≡ length l.initial.dst) × (l.c * 16 ≤ length l.dst)
    × Gathering (table_in l.table.list.now) l.e l.src l.n l.initial.dst l.dst l.c l.i
