-- The laws of `specs/Keep.antt`, a file each. Assumes nothing.
pub mod Laws
