-- The number codec of the table format, in reading order: the lists and choices it rests on, what a number's bytes
-- are, a number at a position of some bytes, what is proved of these, worked examples. Assumes nothing.
pub mod Choice
pub mod Every
pub mod Some
pub mod Number
pub mod Position
pub mod Claims
pub mod Examples
