-- The laws of `specs/Written.antt`, a file each. Assumes nothing.
pub mod Faults
pub mod Good
pub mod Laws
pub mod Unsound
