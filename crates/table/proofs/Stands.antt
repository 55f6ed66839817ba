-- The laws of `specs/Stands.antt`, a file each. Assumes nothing.
pub mod Home
pub mod Laws
