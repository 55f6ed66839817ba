-- The laws of `specs/Tokens.antt`, a file each. Assumes nothing.
pub mod Laws
