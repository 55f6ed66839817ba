-- The laws of `specs/Try.antt`, a file each. Assumes nothing.
pub mod Laws
