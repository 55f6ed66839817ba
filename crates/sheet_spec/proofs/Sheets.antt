-- The laws of `specs/Sheet.antt`, a file each. Assumes nothing.
pub mod Laws
pub mod Writing
