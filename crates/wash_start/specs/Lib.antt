-- What a fresh start asks for and promises, in the terms of crate wash_spec; what stands between two events. Assumes
-- nothing.
pub mod Fresh
pub mod Standing
