-- The invariant of `rows.read_rows`.
use Prim.Native.Nat.{◌+◌, ◌≤◌}
use mathlib.Core.Path.{◌≡◌}
use lib.ListN.{length}
use Rattle.table.specs.Rows.{alphabet_most, RowsFit}
use Rattle.table_index.specs.Layout.{rows_most}
use Rattle.event_sets.proofs.rows.RowsTurn.{Head}
use Rattle.event_sets.proofs.rows.read_rows.Given as goal

abbrev pub invariant-loop-j : goal.invariant-loop-j
invariant-loop-j l =
    Head l.list l.alphabet l.count l.at l.row l.initial.work l.work l.j l.p × (l.alphabet ≤ alphabet_most) × (l.row + l.count ≤ rows_most)
    × (length l.initial.work ≡ 8192) × RowsFit l.alphabet (l.row + l.count)
