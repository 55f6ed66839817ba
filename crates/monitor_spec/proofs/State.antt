-- The laws of `specs/State.antt`, a file each. Assumes nothing.
pub mod Areas
pub mod Records
