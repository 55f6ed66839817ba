-- What an event with its minute asks for and promises, in the terms of crate wash_spec. Assumes nothing.
pub mod Event
