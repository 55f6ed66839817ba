-- Laws of residuals that need what terms mean: `Resolve` and `After` (what they stand for), `Traces` (they are the trace
-- sets). The residuals are defined in crate residuals. Assumes nothing.
pub mod Resolve
pub mod After
pub mod Traces
