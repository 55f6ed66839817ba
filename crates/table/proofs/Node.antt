-- The laws of `specs/Node.antt`, a file each. Assumes nothing.
pub mod Homes
pub mod Laws
pub mod Numbers
pub mod Parts
