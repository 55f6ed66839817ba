-- The laws of `specs/Residual.antt`, a file each. Assumes nothing.
pub mod Calls
pub mod Counts
