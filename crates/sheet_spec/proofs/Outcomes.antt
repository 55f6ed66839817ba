-- The laws of `specs/Outcomes.antt`, a file each. Assumes nothing.
pub mod Laws
