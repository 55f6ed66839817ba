-- The invariants and measures of `turns.take_turns`.
use Prim.Native.Nat.{◌-◌, ◌^◌, ◌<◌, ◌≤◌}
use mathlib.Core.Path.{◌≡◌}
use lib.ListN.{length}
use Rattle.index.specs.Handle.{table_of}
use Rattle.set_runs.specs.Turns.{Since}
use Rattle.leaf_memo.specs.Memo.{StoreOf}
use Rattle.set_runs.proofs.turns.take_turns.Given as goal

abbrev pub invariant-loop-run : goal.invariant-loop-run
invariant-loop-run l =
    (l.from ≤ l.at.place) × (l.at.place ≤ length l.events) × (length l.events < 2 ^ 64)
    × (length l.area0 ≡ length l.initial.area0) × (length l.area1 ≡ length l.initial.area1)
    × StoreOf (table_of l.table) l.store
    × Since (table_of l.table) l.events l.initial.sets l.initial.at l.initial.area0 l.initial.area1 l.sets l.at l.area0
    l.area1 × (l.learnt ≤ l.at.place) × (l.from ≡ l.initial.at.place)

abbrev pub decreases-loop-run : goal.decreases-loop-run
decreases-loop-run l = length l.events - l.at.place
