-- The laws of `specs/Tables.antt`, a file each. Assumes nothing.
pub mod Laws
