-- The invariant of `consistency.slots_fit`.
use Prim.Native.Nat.{◌≤◌}
use mathlib.Core.Path.{◌≡◌}
use Rattle.table_index.specs.Index.{table_in}
use Rattle.monitor_spec.specs.State.{chunks}
use Rattle.monitor_spec.specs.Valid.{valid_slot}
use Rattle.monitor_spec.specs.Consistent.{every}
use Rattle.state.proofs.consistency.SlotsTurn.{slots_from}
use Rattle.state.proofs.consistency.slots_fit.Given as goal

abbrev pub invariant-loop-i : goal.invariant-loop-i
invariant-loop-i l =
    (l.i ≤ l.count)
    × (every (valid_slot (table_in l.table.list.now)) (slots_from l.area l.count l.i)
    ≡ every (valid_slot (table_in l.table.list.now)) (chunks l.count l.area))
