-- `parts::Writer::put_permitted` meets its contract: the events of both words. Assumes nothing.
use Rattle.std.proofs.Common.{arith}
use Rattle.state.specs.Answers.{bits_of}
use Rattle.trace_text.specs.TraceText.Laws.{events_both}
use Rattle.trace_text.specs.Put.Laws.{grows_then}
use Rattle.trace_text.proofs.parts.Writer.put_permitted.Goals as goal

pub returns-clause-grows : goal.returns-clause-grows
returns-clause-grows c =
    rw (events_both (bits_of c.args.bits))
    (grows_then _ _ _ _ _ _ _ _ c.put_events.ensures.grows c.put_events-2.ensures.grows (omega arith))
