-- The laws of `specs/Book.antt`, a file each. Assumes nothing.
pub mod Judging
pub mod Laws
pub mod Sound
