-- The laws of `specs/Line.antt`, a file each. Assumes nothing.
pub mod Filling
pub mod Laws
