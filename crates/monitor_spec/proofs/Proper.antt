-- The laws of `specs/Proper.antt`, a file each. Assumes nothing.
pub mod Laws
pub mod Nodes
