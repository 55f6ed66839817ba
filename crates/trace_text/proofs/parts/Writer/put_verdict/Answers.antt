-- `parts::Writer::put_verdict` meets its contract, by the verdict. Assumes nothing.
use Rattle.std.proofs.Common.{arith}
use Rattle.trace_text.specs.TraceText.{verdict_text}
use Rattle.trace_text.specs.Put.Laws.{grows_then}
use Rattle.trace_text.proofs.parts.Writer.put_verdict.Goals as goal

pub returns-in-Running-clause-grows : goal.returns-in-Running-clause-grows
unfolding verdict_text
returns-in-Running-clause-grows c =
    rw c.in-Running.is
    (grows_then _ _ _ _ _ _ _ _ c.put.ensures.grows c.put_number.ensures.grows (omega arith))

pub returns-in-Failed-clause-grows : goal.returns-in-Failed-clause-grows
unfolding verdict_text
returns-in-Failed-clause-grows c =
    rw c.in-Failed.is
    (grows_then _ _ _ _ _ _ _ _ c.put-in-Failed.ensures.grows c.put_number-in-Failed.ensures.grows (omega arith))
