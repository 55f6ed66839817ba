-- The laws of `specs/Answers.antt`, a file each. Assumes nothing.
pub mod Laws
