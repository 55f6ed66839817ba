-- What entering an operation promises, in the terms of crate monitor_spec. Assumes nothing.
pub mod Entered
