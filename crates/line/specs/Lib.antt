-- What the code's answers are, in the terms of crate `line_spec`. Assumes nothing.
pub mod Answers
