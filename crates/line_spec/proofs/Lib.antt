-- The proofs of `specs/Claims.antt`. Assumes nothing.
pub mod Theorems
pub mod Rows
pub mod Judged
pub mod Lent
pub mod Line
pub mod Pieces
pub mod Opening
