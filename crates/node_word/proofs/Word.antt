-- The laws of `specs/Word.antt`, a file each. Assumes nothing.
pub mod Laws
