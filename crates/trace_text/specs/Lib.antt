-- The text of a line of a trace, in reading order: the text; what the functions on the buffer promise; what is claimed.
-- Assumes nothing.
pub mod TraceText
pub mod Put
pub mod Claims
