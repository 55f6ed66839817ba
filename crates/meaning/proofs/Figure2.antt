-- The laws of `specs/Figure2.antt`, a file each. Assumes nothing.
pub mod Closed
pub mod Laws
