-- The laws of `specs/Windows.antt`, a file each. Assumes nothing.
pub mod Laws
