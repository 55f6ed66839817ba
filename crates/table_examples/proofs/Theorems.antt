-- A proof of each claim. Assumes nothing.
use Rattle.table_examples.specs.Claims.{LongExamples, BufferExamples}
use Rattle.table_examples.proofs.Rows.{longs_hold, reads_hold, writes_hold}

pub long_examples : LongExamples
unfolding LongExamples
long_examples = longs_hold

pub buffer_examples : BufferExamples
unfolding BufferExamples
buffer_examples = (reads_hold, writes_hold)
