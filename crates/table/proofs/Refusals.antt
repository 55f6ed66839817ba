-- The laws of `specs/Refusals.antt`, a file each. Assumes nothing.
pub mod AtNumbers
pub mod Exact
pub mod Judged
pub mod Laws
pub mod Lowest
pub mod Stops
pub mod Terms
