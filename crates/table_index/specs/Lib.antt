-- The index in the work area, in reading order: its layout, what its words say of a table; then the promises of the
-- code that fills it: reading, judging, filling. Assumes nothing.
pub mod Layout
pub mod Index
pub mod References
pub mod Parse
pub mod Judging
pub mod BytesJudged
pub mod Filling
