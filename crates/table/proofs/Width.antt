-- The laws of `specs/Width.antt`, a file each. Assumes nothing.
pub mod Reach
pub mod Laws
