-- The laws of `specs/Memory.antt`, a file each. Assumes nothing.
pub mod Laws
