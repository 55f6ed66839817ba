-- The laws of `specs/ClosedResiduals.antt`, a file each. Assumes nothing.
pub mod Resolved
