-- The laws of `specs/Figure3.antt`, a file each. Assumes nothing.
pub mod Laws
