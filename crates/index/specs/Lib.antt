-- What the accessors of an accepted table's index rest on: its rows as masks, and a law for each accessor.
-- Assumes nothing.
pub mod Rows
pub mod Facts
pub mod Code
pub mod Handle
