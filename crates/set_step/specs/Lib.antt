-- The step in reading order: one residual and one event, a whole set and one event, and what that comes to; the
-- residuals of a definition. Assumes nothing.
pub mod Stepped
pub mod Successors
pub mod Started
pub mod Examples
pub mod Claims
