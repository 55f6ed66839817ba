-- The laws of `specs/Holding.antt`, a file each. Assumes nothing.
pub mod Laws
