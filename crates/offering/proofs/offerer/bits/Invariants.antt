-- The invariants and measures of `offerer.bits`.
use Prim.Native.Nat.{◌≤◌}
use Rattle.table_index.specs.Index.{table_in}
use Rattle.monitor_spec.specs.Holds.{held_in}
use Rattle.offering.proofs.offerer.BitsTurn.{Split}
use Rattle.offering.proofs.offerer.bits.Given as goal

abbrev pub invariant-loop-i : goal.invariant-loop-i
invariant-loop-i l =
    (l.i ≤ l.n) × Split (table_in l.table.list.now) (held_in (table_in l.table.list.now) l.area l.count) l.b l.n l.bits l.i

abbrev pub decreases-loop-i : goal.decreases-loop-i
decreases-loop-i l = l.i
