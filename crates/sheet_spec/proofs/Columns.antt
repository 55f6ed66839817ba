-- The laws of `specs/Columns.antt`, a file each. Assumes nothing.
pub mod Laws
