-- The laws of `specs/Closing.antt`, a file each. Assumes nothing.
pub mod Laws
