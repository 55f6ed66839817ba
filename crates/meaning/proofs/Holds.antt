-- The laws of `specs/Holds.antt`, a file each. Assumes nothing.
pub mod Alphabet
