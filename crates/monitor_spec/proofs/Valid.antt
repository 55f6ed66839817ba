-- The laws of `specs/Valid.antt`, a file each. Assumes nothing.
pub mod Laws
pub mod Packing
pub mod Residuals
