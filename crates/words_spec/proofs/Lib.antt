-- The proofs of `specs/Claims.antt`: `Theorems` has one for each claim, from the others. Assumes nothing.
pub mod Theorems
pub mod Zero
pub mod Shows
pub mod Rows
pub mod Calls
pub mod Tables
pub mod Ways
pub mod Words
