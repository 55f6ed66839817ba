-- The laws of `specs/Progress.antt`, a file each. Assumes nothing.
pub mod Laws
