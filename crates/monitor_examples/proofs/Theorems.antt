-- A proof of each claim. Assumes nothing.
use Rattle.monitor_examples.specs.Claims.{Cases, Buffers, TimedRows}
use Rattle.monitor_examples.proofs.Calls.{further, peaks, outcomes_stand}
use Rattle.monitor_examples.proofs.TimedCalls.{rows_stand}

pub cases : Cases
unfolding Cases
cases = (further, peaks)

pub buffers : Buffers
unfolding Buffers
buffers = outcomes_stand

pub timed_rows : TimedRows
unfolding TimedRows
timed_rows = rows_stand
