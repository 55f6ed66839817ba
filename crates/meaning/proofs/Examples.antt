-- The laws of `specs/Examples.antt`, a file each. Assumes nothing.
pub mod Laws
