-- `trace::tracer::trace_event` meets its contract: an event that is taken leaves what `offered` asks for. Assumes
-- nothing.
use Rattle.tracing.specs.Tracing.Laws.{tracing_measured, tracing_consistent, went_tracing}
use Rattle.tracing.specs.Tracing.Laws.{traced_went, traced_stopped}
use Rattle.tracing.proofs.tracer.trace_event.Goals as goal

pub offered-requires : goal.offered-requires
offered-requires c =
    let x = went_tracing _ _ _ c.requires.tracing _ _ _ _ c.take_anew.ensures _
    c.in-Ok.is in
    record {
      area1_value = tracing_measured _ _ _ x;
      area1_value_2 = tracing_consistent _ _ _ x;
    }

-- the event is taken
pub returns-in-Ok : goal.returns-in-Ok
returns-in-Ok c =
    traced_went _ _ _ c.requires.tracing _ _ _ _ c.take_anew.ensures _ c.in-Ok.is _
    c.offered.ensures

-- it is refused
pub returns-in-Err : goal.returns-in-Err
returns-in-Err c =
    traced_stopped _ _ _ c.requires.tracing _ _ _ _ c.take_anew.ensures _
    c.in-Err.is
