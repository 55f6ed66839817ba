-- The invariant of `rows.read_sets`.
use Prim.Native.Nat.{◌≤◌}
use Rattle.table.specs.Rows.{alphabet_most}
use Rattle.event_sets.proofs.rows.SetsTurn.{Head}
use Rattle.event_sets.proofs.rows.read_sets.Given as goal

abbrev pub invariant-loop-s : goal.invariant-loop-s
invariant-loop-s l =
    Head l.list l.alphabet l.count l.at l.initial.work l.work l.s l.p l.row × (1 ≤ l.alphabet) × (l.alphabet ≤ alphabet_most)
