-- The laws of `specs/View.antt`, a file each. Assumes nothing.
pub mod Laws
