-- What a table means, in reading order: the paper's three figures, carried to named definitions, and the closed terms
-- of a table; worked examples and claims; then what the proofs use. The laws of each file stand in `proofs/`.
-- Assumes nothing.
pub mod Figure1
pub mod Figure2
pub mod Figure3
pub mod Closing
pub mod FigureExamples
pub mod Examples
pub mod Claims
pub mod Holds
pub mod Doom
pub mod ClosedResiduals
