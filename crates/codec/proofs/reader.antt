-- The lemmas of `reader.rt`. Assumes nothing.
pub mod Outcomes
