-- The laws of `specs/Ways.antt`, a file each. Assumes nothing.
pub mod Laws
