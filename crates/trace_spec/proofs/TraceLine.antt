-- The laws of `specs/TraceLine.antt`, a file each. Assumes nothing.
pub mod Laws
