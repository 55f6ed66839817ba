-- The laws of `specs/Judge.antt`, a file each. Assumes nothing.
pub mod Laws
