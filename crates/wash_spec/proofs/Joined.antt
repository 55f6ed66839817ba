-- The laws of `specs/Joined.antt`, a file each. Assumes nothing.
pub mod Laws
