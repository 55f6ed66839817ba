-- The laws of `specs/Judged.antt`, a file each. Assumes nothing.
pub mod Laws
pub mod Taken
