-- The laws of `specs/Regular.antt`, a file each. Assumes nothing.
pub mod Laws
pub mod Least
