-- The code's record and answers of wash hours, in the terms of crate wash_spec. Assumes nothing.
pub mod Answers
