-- The laws of `specs/BytesRefused.antt`, a file each. Assumes nothing.
pub mod Exact
pub mod Given
pub mod Laws
pub mod Listed
pub mod Stream
