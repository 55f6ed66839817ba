-- The proofs of `specs/Claims.antt`. Assumes nothing.
pub mod Theorems
pub mod Rows
pub mod ReadLaws
pub mod Trace
pub mod TraceLine
pub mod Ways
