-- The proofs of this crate. Assumes nothing.
pub mod Theorems
pub mod Decimal
