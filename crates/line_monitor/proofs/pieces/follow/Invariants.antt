-- The invariants and measures of `pieces.follow`.
use Prim.Native.Nat.{◌-◌, ◌≤◌}
use mathlib.Core.Path.{◌≡◌}
use lib.ListN.{length}
use Rattle.line_spec.specs.Judged.{Goes}
use Rattle.std.specs.declared.ops.ControlFlow.TheVariants.{Continue}
use Rattle.resuming.specs.Answers.{resume_said}
use Rattle.line_monitor.proofs.pieces.follow.Given as goal

abbrev pub invariant-loop-part : goal.invariant-loop-part
invariant-loop-part l =
    (length l.area0 ≡ length l.initial.area0) × (length l.area1 ≡ length l.initial.area1) × (length l.piece ≡ length l.initial.piece)
    × (length l.work ≡ length l.initial.work) × (l.last.taken ≤ 18446744073709551615)
    × Goes (length l.initial.piece) (resume_said l.list (Continue l.initial.last) l.initial.area0 l.initial.area1 l.initial.work)
    (resume_said l.list (Continue l.last) l.area0 l.area1 l.work)

abbrev pub decreases-loop-part : goal.decreases-loop-part
decreases-loop-part l = 18446744073709551615 - l.last.taken
