-- The laws of `specs/Slots.antt`, a file each. Assumes nothing.
pub mod Laws
