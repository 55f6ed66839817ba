-- The laws of `specs/Context.antt`, a file each. Assumes nothing.
pub mod Laws
