-- The laws of `specs/Grammar.antt`, a file each. Assumes nothing.
pub mod Local
pub mod Rows
pub mod Sets
pub mod Terms
pub mod Whole
