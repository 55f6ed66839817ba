-- The laws of `specs/Writing.antt`, a file each. Assumes nothing.
pub mod Laws
