-- The proofs of this crate. Assumes nothing.
pub mod Calls
pub mod TimedCalls
pub mod Theorems
