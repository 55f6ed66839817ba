-- The laws of `specs/Branches.antt`, a file each. Assumes nothing.
pub mod Capped
pub mod Laws
