-- `set_step::steps::step_many` meets its contract: the slot is loaded, its leaves prepared, and walked.
-- Assumes nothing.
use Rattle.set_step.specs.Stepped.One.{loaded_sound, start_place, many_done}
use Rattle.set_step.proofs.steps.step_many.Goals as goal

pub prepare-requires : goal.prepare-requires
prepare-requires c =
    record {
      loaded = loaded_sound c.requires.steps_one c.load.new.store c.load.auto.store
          c.load.ensures;
    }

pub walk-requires : goal.walk-requires
walk-requires c =
    record {
      ready = c.prepare.ensures.0.ready;
      place = start_place c.requires.steps_one c.load.new.store c.load.auto.store c.load.ensures _ c.prepare.ensures.0;
    }

pub returns : goal.returns
returns c = (
  many_done c.requires.steps_one c.load.new.store c.load.auto.store c.load.ensures _ c.prepare.ensures.0 _ _ c.walk.ensures.0,
  c.prepare.ensures.1,
)
