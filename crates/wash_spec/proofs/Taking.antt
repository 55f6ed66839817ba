-- The laws of `specs/Taking.antt`, a file each. Assumes nothing.
pub mod Laws
