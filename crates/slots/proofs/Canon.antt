-- The laws of `specs/Canon.antt`, a file each. Assumes nothing.
pub mod Areas
pub mod Canonical
pub mod Comparison
pub mod Laws
pub mod Members
pub mod Places
