-- The laws of `specs/Fields.antt`, a file each. Assumes nothing.
pub mod Laws
