-- The laws of `specs/Lot.antt`, a file each. Assumes nothing.
pub mod Laws
pub mod Scans
