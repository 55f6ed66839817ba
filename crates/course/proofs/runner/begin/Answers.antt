-- `runner::begin` meets its contract: the buffers have their lengths. Assumes nothing.
use Prim.Native.Nat.{ℕ, ◌<◌}
use native.Mathlib.Omega.{arith}
use mathlib.Core.Path.{sym, subst}
use lib.ListN.{length-replicate}
use Rattle.feeding.specs.Feeding.{step_words}
use Rattle.course_spec.specs.Course.Laws.{begin_said}
use Rattle.course.proofs.runner.begin.Goals as goal

pub follow-requires : goal.follow-requires
follow-requires c =
    record {
      tracing = c.requires.tracing;
      rooms = (
        (length-replicate {A = ℕ} step_words 0, omega (arith, c.say.auto.text, c.requires.in_bounds)),
        subst
            (λ (n : ℕ). 0 < n) (sym (length-replicate {A = ℕ} 4096 0)) (omega arith),
      );
    }

pub returns : goal.returns
returns c = begin_said _ _ _ _ _ c.none.ensures _ c.say.ensures.spoken _ c.in_ok-said.was _ c.follow.ensures
