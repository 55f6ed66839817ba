-- The proofs of this crate that belong to no one function. Assumes nothing.
pub mod Canon
pub mod Holding
pub mod Insertion
