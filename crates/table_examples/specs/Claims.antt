-- What this crate proves: statements only. The proof of each is in `proofs/Theorems.antt`, under the same name.
--     LongExamples      tables at the limit of their bytes, and above it
--     BufferExamples    what Read and Write answer and leave
-- Assumes nothing.
use Rattle.std.specs.Prelude.{T}
use Rattle.table.specs.Examples.{every}
use Rattle.table_examples.specs.LongTables.{long_rows}
use Rattle.table_examples.specs.Buffers.{read_rows, write_rows}

-- 01: "A table is at most 16,384 bytes"; "2 (its bytes would be too many) stands right after 9"
unfoldable pub LongExamples : Type 0
LongExamples = T (every long_rows)

-- 01, "Operations", Read and Write; "When the monitor declines"
unfoldable pub BufferExamples : Type 0
BufferExamples = T (every read_rows) × T (every write_rows)
