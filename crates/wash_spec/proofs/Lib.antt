-- The proofs of `specs/Claims.antt`: `Theorems` has one for each claim, from the others. Assumes nothing.
pub mod Theorems
pub mod Forms
pub mod Gate
pub mod Onward
pub mod Standing
pub mod Calls
pub mod Histories
pub mod Entering
pub mod Expected
pub mod Feed
pub mod Joined
pub mod Progress
pub mod Refusals
pub mod Taking
