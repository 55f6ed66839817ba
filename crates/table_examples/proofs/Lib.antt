-- The proofs of this crate. Assumes nothing.
pub mod Rows
pub mod Theorems
