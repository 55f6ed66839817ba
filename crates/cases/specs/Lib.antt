-- What the test programs say of a file of cases, in reading order: what a line makes of a tally; what is claimed.
-- Assumes nothing.
pub mod Tally
pub mod Claims
