-- The invariants and measures of `only.root_code`.
use Rattle.table_index.specs.Index.{table_in}
use Rattle.tree_ways.specs.Code.{Codes}
use Rattle.tree_ways.proofs.only.root_code.Given as goal

abbrev pub invariant-loop-j : goal.invariant-loop-j
invariant-loop-j l = Codes (table_in l.table.list.now) l.e l.area l.k l.n l.stack l.h l.j

abbrev pub decreases-loop-j : goal.decreases-loop-j
decreases-loop-j l = l.j
