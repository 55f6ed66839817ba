-- The laws of `specs/History.antt`, a file each. Assumes nothing.
pub mod After
pub mod Begun
pub mod Laws
pub mod Peaks
pub mod Verdicts
