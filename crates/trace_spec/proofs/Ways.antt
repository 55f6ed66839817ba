-- The laws of `specs/Ways.antt`, a file each. Assumes nothing.
pub mod Each
pub mod Offers
