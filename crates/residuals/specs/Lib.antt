-- Residuals in reading order: the memory that a node keeps, residuals and what is left of them after events, their
-- slots; worked examples; what is proved. Assumes nothing.
pub mod Keep
pub mod Residual
pub mod Slots
pub mod Examples
pub mod Claims
