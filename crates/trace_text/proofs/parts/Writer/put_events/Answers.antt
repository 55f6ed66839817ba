-- `parts::Writer::put_events` meets its contract: after i events, the text of those before is put. Assumes nothing.
use Rattle.std.proofs.Common.{arith, ◌∙◌}
use Rattle.trace_text.specs.Put.Laws.{next_event, last_event}
use Rattle.trace_text.proofs.parts.Writer.put_events.Goals as goal

pub loop-i-preserved : goal.loop-i-preserved
loop-i-preserved c =
    let put = c.put_event.ensures in
    let loop = c.loop-i in (
      put.same_buffer ∙ loop.invariant.0,
      next_event _ _ _ _ _ _ _ c.loop-i-test.true loop.invariant.1 put.grows,
    )

pub returns-clause-grows : goal.returns-clause-grows
returns-clause-grows c = last_event _ _ _ _ _ _ (omega arith) (omega arith) c.loop-i.invariant.1
