-- Runs over the sets that a call has met, and what one event more promises. Assumes nothing.
pub mod OverSets
