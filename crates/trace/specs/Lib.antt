-- What the functions of this crate promise, in the terms of crate `trace_spec`: of the front of an input. Assumes
-- nothing.
pub mod Opening
