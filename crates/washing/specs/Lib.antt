-- What the run of a call promises, in the terms of crate wash_spec. Assumes nothing.
pub mod Washing
