-- `reads::take_read` meets its contract: after i events the monitor stands just these further. The lent buffers keep
-- their lengths. Assumes nothing.
use native.Mathlib.Omega.{arith}
use mathlib.Core.Path.{refl, ◌∙◌}
use Rattle.course_spec.specs.Course.Steps.{onward_none}
use Rattle.course_spec.specs.Course.Laws.{turned_after, read_tracing, read_next, read_whole, read_over}
use Rattle.arrivals.proofs.reads.take_read.Goals as goal

pub loop-e-init : goal.loop-e-init
loop-e-init c = (refl, refl, refl, refl, c.requires.rooms, onward_none _ _ _, c.requires.tracing)

pub turn-requires : goal.turn-requires
turn-requires c =
    record {
      tracing = c.loop-e.invariant.6;
      rooms = (
        c.loop-e.invariant.2 ∙ c.loop-e.invariant.4.0,
        omega (arith, c.loop-e.invariant.3, c.loop-e.invariant.4.1),
      );
    }

pub loop-e-preserved : goal.loop-e-preserved
loop-e-preserved c =
    let turned = turned_after _ _ _ _ _ _ _ _ _ c.count-before.ensures c.turn.ensures in (
      c.turn.auto.area0 ∙ c.loop-e.invariant.0,
      c.turn.auto.area1 ∙ c.loop-e.invariant.1,
      c.turn.auto.store ∙ c.loop-e.invariant.2,
      c.turn.auto.text ∙ c.loop-e.invariant.3,
      c.loop-e.invariant.4,
      read_next _ _ _ _ _ c.loop-e.e-index _ _ c.loop-e.invariant.5 c.loop-e-test.true _ _ _ turned _ _
          c.in_ok-next.was,
      read_tracing _ _ _ _ _ c.loop-e.e-index _ _ c.loop-e.invariant.5 c.loop-e-test.true _ _ _ turned _ _
          c.in_ok-next.was,
    )

pub returns-in_err-next : goal.returns-in_err-next
returns-in_err-next c =
    rw c.from_residual.ensures (read_over _ _ _ _ _ c.loop-e.e-index _ _ c.loop-e.invariant.5 c.loop-e-test.true _ _ _
    (turned_after _ _ _ _ _ _ _ _ _ c.count-before.ensures c.turn.ensures) _ c.in_err-next.was)

pub returns : goal.returns
returns c =
    read_whole _ _ _ _ _ c.loop-e.e-index _ _ c.loop-e.invariant.5 c.loop-e-test.false _ _ _ _ refl refl
    c.loop-e.invariant.6
