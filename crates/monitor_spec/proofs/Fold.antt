-- The laws of `specs/Fold.antt`, a file each. Assumes nothing.
pub mod Joined
pub mod Laws
