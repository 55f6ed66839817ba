-- The laws of `specs/Insertion.antt`, a file each. Assumes nothing.
pub mod Compare
pub mod Gap
pub mod Laws
pub mod Narrow
