-- The invariant of `branches.fill_all_branches`.
use Rattle.table_index.specs.Index.{table_in}
use Rattle.table_index.specs.Filling.Bodies.{BodiesSoFar}
use Rattle.judge.proofs.branches.fill_all_branches.Given as goal

abbrev pub invariant-loop-d : goal.invariant-loop-d
invariant-loop-d l = BodiesSoFar (table_in l.list) l.initial.work l.work l.d
