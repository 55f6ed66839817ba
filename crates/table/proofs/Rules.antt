-- The laws of `specs/Rules.antt`, a file each. Assumes nothing.
pub mod Laws
