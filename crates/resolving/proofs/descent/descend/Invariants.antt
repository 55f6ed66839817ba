-- The invariants and measures of `descent.descend`.
use Rattle.table_index.specs.Index.{table_in}
use Rattle.node_word.specs.Word.{memory_of}
use Rattle.resolving.specs.ResidualWords.Descent.{Descent, height}
use Rattle.resolving.proofs.descent.descend.Given as goal

abbrev pub invariant-loop-c : goal.invariant-loop-c
invariant-loop-c l =
    Descent (table_in l.table.list.now) l.n (memory_of l.m) l.i l.slot l.b l.at l.memory l.j

abbrev pub decreases-loop-c : goal.decreases-loop-c
decreases-loop-c l = height (table_in l.table.list.now) l.b l.at
