-- The laws of `specs/Before.antt`, a file each. Assumes nothing.
pub mod Laws
