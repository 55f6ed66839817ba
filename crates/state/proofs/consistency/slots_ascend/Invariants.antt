-- The invariant of `consistency.slots_ascend`.
use Prim.Native.Nat.{◌-◌, ◌≤◌}
use mathlib.Core.Path.{◌≡◌}
use Rattle.monitor_spec.specs.State.{chunks}
use Rattle.monitor_spec.specs.Consistent.{ascends}
use Rattle.state.proofs.consistency.SlotsTurn.{slots_from}
use Rattle.state.proofs.consistency.slots_ascend.Given as goal

abbrev pub invariant-loop-i : goal.invariant-loop-i
invariant-loop-i l = (1 ≤ l.i) × (ascends (slots_from l.area l.count (l.i - 1)) ≡ ascends (chunks l.count l.area))
