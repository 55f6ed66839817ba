-- The laws of `specs/Views.antt`, a file each. Assumes nothing.
pub mod Laws
