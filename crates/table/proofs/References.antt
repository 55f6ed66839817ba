-- The laws of `specs/References.antt`, a file each. Assumes nothing.
pub mod Laws
