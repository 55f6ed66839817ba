-- The proofs of the claims. Assumes nothing.
pub mod Theorems
pub mod Closing
pub mod Doom
pub mod Examples
pub mod Figure2
pub mod Formed
pub mod Holds
pub mod Models
pub mod FigureExamples
pub mod ClosedResiduals
pub mod ClosedResidualsHold
pub mod Figure3
pub mod Theorem3
