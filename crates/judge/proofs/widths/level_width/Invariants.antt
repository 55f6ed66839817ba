-- The invariant of `widths.level_width`.
use Rattle.table_index.specs.Index.{table_in}
use Rattle.table_index.specs.Filling.Levels.{LevelSoFar}
use Rattle.judge.proofs.widths.level_width.Given as goal

abbrev pub invariant-loop-d : goal.invariant-loop-d
invariant-loop-d l = LevelSoFar (table_in l.list) l.initial.work l.work l.level l.widest l.d
