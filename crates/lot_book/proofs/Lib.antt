-- The proofs of this crate that belong to no one function. Assumes nothing.
pub mod Theorems
pub mod Book
pub mod Lots
pub mod NumberLaws
pub mod Written
