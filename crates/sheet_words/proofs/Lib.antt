-- The proofs of `specs/Claims.antt`. Assumes nothing.
pub mod Theorems
pub mod Call
