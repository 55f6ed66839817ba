-- What entering a call in wash hours promises, in the terms of crate wash_spec. Assumes nothing.
pub mod Entering
