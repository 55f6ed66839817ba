-- The laws of `specs/Opening.antt`, a file each. Assumes nothing.
pub mod Front
pub mod Laws
