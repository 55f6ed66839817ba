-- `parts::Writer::put_record` meets its contract: its four parts are put one after the other. Assumes nothing.
use Rattle.std.proofs.Common.{arith}
use Rattle.trace_text.specs.TraceText.{record_text}
use Rattle.trace_text.specs.Put.Laws.{grows_then}
use Rattle.trace_text.proofs.parts.Writer.put_record.Goals as goal

pub returns-clause-grows : goal.returns-clause-grows
unfolding record_text
returns-clause-grows c =
    let last = grows_then _ _ _ _ _ _ _ 42 c.put_number-2.ensures.grows c.put_number-3.ensures.grows (omega arith) in
    grows_then _ _ _ _ _ _ _ _ c.put_number.ensures.grows
    (grows_then _ _ _ _ _ _ _ 71 c.put_verdict.ensures.grows last (omega arith)) (omega arith)
