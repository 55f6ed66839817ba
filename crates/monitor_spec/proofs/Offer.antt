-- The laws of `specs/Offer.antt`, a file each. Assumes nothing.
pub mod Laws
