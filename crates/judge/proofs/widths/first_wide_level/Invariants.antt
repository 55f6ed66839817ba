-- The invariant of `widths.first_wide_level`.
use Rattle.table_index.specs.Index.{table_in}
use Rattle.table_index.specs.Filling.Wide.{WideSoFar}
use Rattle.judge.proofs.widths.first_wide_level.Given as goal

abbrev pub invariant-loop-level : goal.invariant-loop-level
invariant-loop-level l = WideSoFar (table_in l.list) l.work l.level
