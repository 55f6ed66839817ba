-- The laws of `specs/Call.antt`, a file each. Assumes nothing.
pub mod Laws
