-- The laws of `specs/Marks.antt`, a file each. Assumes nothing.
pub mod Definitions
pub mod Exact
pub mod References
pub mod Sequence
pub mod Sets
pub mod Terms
pub mod TooDeep
pub mod Whole
pub mod Written
