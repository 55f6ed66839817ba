-- `event::turn` meets its contract, by the judgement of the event. Assumes nothing.
use Rattle.course_spec.specs.Course.Laws.{turn_went, turn_unsaid, turn_stopped}
use Rattle.turning.proofs.event.turn.Goals as goal

-- it is refused
pub returns-in-Err : goal.returns-in-Err
returns-in-Err c =
    turn_stopped _ _ _ _ _ _ _ _ c.trace_event.ensures _ c.in-Err.is _
    c.say_refusal.ensures

pub returns-in-Ok-say : goal.returns-in-Ok-say
returns-in-Ok-say c =
    turn_went _ _ _ _ _ _ _ _ c.trace_event.ensures _ c.in-Ok.is _
    c.say.ensures.spoken _ c.in-Ok-say.is

pub returns-in-Err-say : goal.returns-in-Err-say
returns-in-Err-say c = turn_unsaid _ _ _ _ _ _ _ _
