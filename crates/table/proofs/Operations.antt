-- The laws of `specs/Operations.antt`, a file each. Assumes nothing.
pub mod Laws
pub mod Ways
