-- The laws of `specs/Line.antt`, a file each. Assumes nothing.
pub mod Heads
pub mod Opened
pub mod Laws
