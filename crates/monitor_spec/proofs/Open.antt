-- The laws of `specs/Open.antt`, a file each. Assumes nothing.
pub mod Laws
