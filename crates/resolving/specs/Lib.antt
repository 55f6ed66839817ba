-- Residuals as words, in reading order: what a node word says of its term, tables whose definitions can be resolved,
-- what resolving gives, and a leaf's distinct results. Assumes nothing.
pub mod Words
pub mod Lawful
pub mod ResidualWords
pub mod Distinct
