-- What the functions for C promise, in reading order: the record in words; the calls of the table layer; those of the
-- monitor; their ways; that no refusal has the number 0; worked rows; what is claimed. Assumes nothing.
pub mod Words
pub mod Tables
pub mod Calls
pub mod Ways
pub mod Nonzero
pub mod Examples
pub mod Claims
