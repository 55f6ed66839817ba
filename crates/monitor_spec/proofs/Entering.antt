-- The laws of `specs/Entering.antt`, a file each. Assumes nothing.
pub mod Laws
