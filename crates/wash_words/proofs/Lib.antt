-- The proofs of `specs/Claims.antt`: no refusal's number is 0; the theorems. Assumes nothing.
pub mod Zero
pub mod Theorems
pub mod Call
pub mod Words
