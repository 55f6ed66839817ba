-- What this crate proves: statements only. The proof of each is in `proofs/Theorems.antt`, under the same name.
--     Cases        answers of Open and Feed, and of lists of calls;  Buffers: whole outcomes with every lent word
--     TimedRows    calls in wash hours
-- Assumes nothing.
use Rattle.monitor_examples.specs.Cases.{cases, cases_hold}
use Rattle.monitor_examples.specs.PeakCases.{peak_cases}
use Rattle.monitor_examples.specs.Buffers.{BuffersStand}
use Rattle.monitor_examples.specs.TimedRows.{RowsStand}

unfoldable pub Cases : Type 0
Cases = cases_hold cases × cases_hold peak_cases

unfoldable pub Buffers : Type 0
Buffers = BuffersStand

unfoldable pub TimedRows : Type 0
TimedRows = RowsStand
