-- What `trace_monitor` says of an input, in reading order: one line; the lines of a whole input; of an input that comes
-- in reads; what the lines are, by the input; what is claimed, with the worked examples. Assumes nothing.
pub mod TraceLine
pub mod Trace
pub mod Reads
pub mod Ways
pub mod Claims
