-- The laws of `specs/Decimal.antt`, a file each. Assumes nothing.
pub mod Laws
pub mod Unique
