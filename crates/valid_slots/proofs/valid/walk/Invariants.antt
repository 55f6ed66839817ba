-- The invariants and measures of `valid.walk`.
use Rattle.table_index.specs.Index.{table_in}
use Rattle.valid_slots.proofs.valid.WalkTurn.{Head}
use Rattle.valid_slots.proofs.valid.walk.Given as goal

abbrev pub invariant-loop-i : goal.invariant-loop-i
invariant-loop-i l = Head (table_in l.table.list.now) l.slot l.n l.forest l.i

abbrev pub decreases-loop-i : goal.decreases-loop-i
decreases-loop-i l = l.i
