-- The invariants and measures of `resolve.+definition_into_term_into`.
use Prim.Native.Nat.{◌+◌, ◌*◌}
use Rattle.table.specs.Fields.{depth_of}
use Rattle.table.specs.Node.{term_of}
use Rattle.table_index.specs.Index.{table_in}
use Rattle.node_word.specs.Word.{memory_of}
use Rattle.resolving.specs.ResidualWords.Ways.{ResolvingWay}
use Rattle.resolving.proofs.resolve.+definition_into_term_into.Given as goal

abbrev pub decreases-definition_into : goal.decreases-definition_into
decreases-definition_into l = l.d * 64 + 40

abbrev pub decreases-term_into : goal.decreases-term_into
decreases-term_into l = l.bound * 64 + depth_of (term_of (table_in l.table.now.list.now) l.n)

abbrev pub invariant-term_into-loop-slot : goal.invariant-term_into-loop-slot
invariant-term_into-loop-slot l =
    ResolvingWay (table_in l.table.list.now) l.bound l.n (memory_of l.m) l.i l.initial.slot l.at l.j l.slot

abbrev pub decreases-term_into-loop-slot : goal.decreases-term_into-loop-slot
decreases-term_into-loop-slot l = depth_of (term_of (table_in l.table.list.now) l.at)
