-- The claims of `specs/Claims.antt`, and that the worked examples of `specs/Examples.antt` hold. Assumes nothing.
pub mod Theorems
pub mod Rows
pub mod Word
