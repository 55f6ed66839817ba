-- `set_step::steps::step_one` meets its contract: the way of the residual says which of its results there are.
-- Assumes nothing.
use native.Mathlib.Omega.{arith}
use mathlib.Core.Path.{refl}
use Rattle.set_step.specs.Stepped.One.{slot_rooted, still_one, marks_few, lone_rebuilds, lone_done, several_asks}
use Rattle.set_step.specs.Stepped.One.{several_looks, several_done, many_one}
use Rattle.set_step.proofs.steps.step_one.Goals as goal

pub way_of-requires : goal.way_of-requires
way_of-requires c =
    record {
      e_bound = (c.requires.steps_one.event, slot_rooted c.requires.steps_one _ refl);
    }

pub overflow_add-marks : goal.overflow_add-marks
overflow_add-marks c =
    omega (arith, marks_few c.requires.steps_one _ refl _ c.way_of.ensures _ c.in-Moving.is)

pub rebuild-requires : goal.rebuild-requires
rebuild-requires c =
    record {
      rebuilds = lone_rebuilds c.requires.steps_one _ refl _ c.way_of.ensures _ c.in-Moving.is c.if-moves.true;
    }

pub returns-then-moves : goal.returns-then-moves
returns-then-moves c = (
  lone_done c.requires.steps_one _ refl _ c.way_of.ensures _ c.in-Moving.is c.if-moves.true _ c.rebuild.ensures _ _ c.put.ensures,
  c.requires.steps_one.leaves,
)

pub repeats-requires : goal.repeats-requires
repeats-requires c =
    record {
      looks = several_looks c.requires.steps_one _ refl _ c.way_of.ensures _ c.in-Moving.is;
      store_len = c.requires.steps_one.leaves.size;
    }

-- results of a leaf come again
pub returns-then-repeats : goal.returns-then-repeats
returns-then-repeats c =
    (many_one c.requires.steps_one _ _ c.step_many.ensures.0, c.step_many.ensures.1)

pub step_moves-requires : goal.step_moves-requires
step_moves-requires c =
    record {
      steps_moves = several_asks c.requires.steps_one _ refl _ c.way_of.ensures _ c.in-Moving.is;
    }

pub returns-in-Still : goal.returns-in-Still
returns-in-Still c = (
  still_one c.requires.steps_one _ refl _ c.way_of.ensures c.in-Still.is,
  c.requires.steps_one.leaves,
)

pub returns-else-repeats : goal.returns-else-repeats
returns-else-repeats c = (
  several_done c.requires.steps_one _ refl _ c.way_of.ensures _ c.in-Moving.is _ _
      c.step_moves.ensures,
  c.requires.steps_one.leaves,
)

pub returns-in-Many : goal.returns-in-Many
returns-in-Many c =
    (many_one c.requires.steps_one _ _ c.step_many-in-Many.ensures.0, c.step_many-in-Many.ensures.1)
