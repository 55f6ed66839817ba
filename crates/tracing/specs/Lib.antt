-- What the functions of this crate promise, in the terms of crate `trace_spec`: what the code's lines are; what holds
-- between calls, and of one event. Assumes nothing.
pub mod Answers
pub mod Tracing
