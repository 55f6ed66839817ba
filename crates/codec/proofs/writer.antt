-- The lemmas of `writer.rt`. Assumes nothing.
pub mod Outcomes
