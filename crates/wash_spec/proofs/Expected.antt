-- The laws of `specs/Expected.antt`, a file each. Assumes nothing.
pub mod Fresh
pub mod Steps
