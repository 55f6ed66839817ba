-- The laws of `specs/Refusals.antt`, a file each. Assumes nothing.
pub mod Laws
