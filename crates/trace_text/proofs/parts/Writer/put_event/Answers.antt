-- `parts::Writer::put_event` meets its contract, by the lowest bit. Assumes nothing.
use Rattle.trace_text.specs.Put.Laws.{event_set, event_clear}
use Rattle.trace_text.proofs.parts.Writer.put_event.Goals as goal

pub returns-then-word-eq1-clause-grows : goal.returns-then-word-eq1-clause-grows
returns-then-word-eq1-clause-grows c = event_set _ _ _ _ c.if-word-eq1.true c.put_number.ensures.grows

pub returns-else-word-eq1-clause-grows : goal.returns-else-word-eq1-clause-grows
returns-else-word-eq1-clause-grows c = event_clear _ _ _ c.if-word-eq1.false
