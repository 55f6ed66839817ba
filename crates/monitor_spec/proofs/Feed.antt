-- The laws of `specs/Feed.antt`, a file each. Assumes nothing.
pub mod Laws
