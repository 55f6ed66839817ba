-- The laws of `specs/Expected.antt`, a file each. Assumes nothing.
pub mod Laid
pub mod Peaks
pub mod Records
pub mod Steps
pub mod Verdicts
