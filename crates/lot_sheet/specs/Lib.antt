-- What the program's functions promise, in reading order: what is told of a book; how many records a book has; what is
-- claimed. Assumes nothing.
pub mod Reply
pub mod Room
pub mod Claims
