-- `parts::Writer::put_rest` meets its contract: its three parts are put one after the other. Assumes nothing.
use Rattle.std.proofs.Common.{arith}
use Rattle.trace_text.specs.TraceText.{rest_text}
use Rattle.trace_text.specs.Put.Laws.{grows_then}
use Rattle.trace_text.proofs.parts.Writer.put_rest.Goals as goal

pub returns-clause-grows : goal.returns-clause-grows
unfolding rest_text
returns-clause-grows c =
    let last = grows_then _ _ _ _ _ _ _ 2689 c.put_permitted.ensures.grows c.put.ensures.grows (omega arith) in
    grows_then _ _ _ _ _ _ _ _ c.put_record.ensures.grows last (omega arith)
