-- The laws of `specs/Table.antt`, a file each. Assumes nothing.
pub mod Laws
