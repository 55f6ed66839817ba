-- The laws of `specs/Consistent.antt`, a file each. Assumes nothing.
pub mod Laws
pub mod Reading
