-- What the code on a caller's state promises in terms of the monitor's specification (crate monitor_spec), in reading
-- order: the record, the answers and View's part. Assumes nothing.
pub mod Record
pub mod Answers
pub mod Viewed
