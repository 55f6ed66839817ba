-- The laws of `specs/Lent.antt`, a file each. Assumes nothing.
pub mod Ends
pub mod Laws
