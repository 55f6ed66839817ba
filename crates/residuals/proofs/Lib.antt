-- The proofs of the claims, and that the worked examples of `specs/Examples.antt` hold. Assumes nothing.
pub mod Theorems
pub mod Rows
pub mod Keep
pub mod Residual
pub mod Slots
