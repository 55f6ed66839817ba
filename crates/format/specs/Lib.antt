-- The program's formats, in reading order: what the code's head is; what its line is; a line's bytes; what is claimed.
-- Assumes nothing.
pub mod Head
pub mod Line
pub mod Text
pub mod Claims
