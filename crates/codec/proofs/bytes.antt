-- The lemmas of `bytes.rt`. Assumes nothing.
pub mod Read
pub mod Written
