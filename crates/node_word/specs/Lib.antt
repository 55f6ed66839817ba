-- The node word, words as numbers, and what is claimed of them. Assumes nothing.
pub mod Word
pub mod Examples
pub mod Ordered
pub mod Claims
