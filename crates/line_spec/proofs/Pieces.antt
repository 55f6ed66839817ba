-- The laws of `specs/Pieces.antt`, a file each. Assumes nothing.
pub mod Joined
pub mod Laws
