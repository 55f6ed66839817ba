-- The walk in reading order: the results by node words, what they are on trees, and the course of the walk. Assumes
-- nothing.
pub mod Layout
pub mod Walk
pub mod Forest
pub mod Course
pub mod Kinds
