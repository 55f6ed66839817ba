-- The invariant of `definitions.read_definitions`.
use Prim.Native.Nat.{◌≤◌}
use Rattle.table_index.specs.Index.{sets_in}
use Rattle.table_index.specs.Parse.Terms.Definitions.{Defined}
use Rattle.parse.proofs.definitions.read_definitions.Given as goal

abbrev pub invariant-loop-d : goal.invariant-loop-d
invariant-loop-d l =
    Defined (sets_in l.list) l.list l.at l.initial.work l.work l.d l.end.next l.end.terms × (l.d ≤ l.count)
