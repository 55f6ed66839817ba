-- The proofs of this crate that belong to no one function. Assumes nothing.
pub mod Theorems
pub mod Columns
pub mod Line
pub mod Outcomes
pub mod Sheets
