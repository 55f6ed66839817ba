-- The invariant of `rows.read_row`.
use Prim.Native.Nat.{◌≤◌}
use Rattle.table.specs.Rows.{alphabet_most}
use Rattle.event_sets.proofs.rows.RowTurn.{Head}
use Rattle.event_sets.proofs.rows.read_row.Given as goal

abbrev pub invariant-loop-j : goal.invariant-loop-j
invariant-loop-j l =
    Head l.list l.alphabet l.at l.count l.low l.high l.least l.j l.p × (l.alphabet ≤ alphabet_most)
