-- The proofs of the claims. Assumes nothing.
pub mod Theorems
