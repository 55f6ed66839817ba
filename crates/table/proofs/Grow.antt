-- The laws of `specs/Grow.antt`, a file each. Assumes nothing.
pub mod Laws
