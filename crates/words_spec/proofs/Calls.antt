-- The laws of `specs/Calls.antt`, a file each. Assumes nothing.
pub mod Laws
