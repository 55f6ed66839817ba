-- The invariants and measures of `widths.fill_widths`.
use Prim.Native.Nat.{◌≤◌}
use Rattle.table_index.specs.Index.{table_in}
use Rattle.table_index.specs.Filling.{WidthsFilled}
use Rattle.judge.proofs.widths.fill_widths.Given as goal

abbrev pub invariant-loop-n : goal.invariant-loop-n
invariant-loop-n l = (l.from ≤ l.n) × (l.n ≤ l.to) × WidthsFilled (table_in l.list) l.initial.work l.work l.n l.to l.level

abbrev pub decreases-loop-n : goal.decreases-loop-n
decreases-loop-n l = l.n
