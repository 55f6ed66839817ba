-- The laws of `specs/Trace.antt`, a file each. Assumes nothing.
pub mod Begun
pub mod Last
pub mod Lines
