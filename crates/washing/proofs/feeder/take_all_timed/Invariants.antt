-- The invariants of `feeder.take_all_timed`.
use Prim.Native.Nat.{◌^◌, ◌<◌, ◌≤◌}
use mathlib.Core.Path.{◌≡◌}
use lib.ListN.{length}
use Rattle.tree_walk.specs.Layout.{store_words}
use Rattle.wash_state.specs.Answers.{timed_monitor_of}
use Rattle.washing.proofs.feeder.Turn.{Head}
use Rattle.washing.proofs.feeder.take_all_timed.Given as goal

abbrev pub invariant-loop-i : goal.invariant-loop-i
invariant-loop-i l =
    (l.i ≤ length l.events) × (length l.events < 2 ^ 64) × (length l.area0 ≡ length l.initial.area0) × (length l.area1 ≡ length l.initial.area1)
    × (length l.work ≡ length l.initial.work) × (length l.store ≡ store_words)
    × Head l.everyday l.wash l.windows (timed_monitor_of l.initial.reached l.initial.area0 l.initial.area1) l.events l.minutes l.reached l.area0 l.area1 l.work l.i
