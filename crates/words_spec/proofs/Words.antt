-- The laws of `specs/Words.antt`, a file each. Assumes nothing.
pub mod Laws
