-- A lot book, in reading order: its numbers, one record, all records; a book by its bytes alone; what is proved of
-- these; worked books. Assumes nothing.
pub mod Number
pub mod Lot
pub mod Book
pub mod Written
pub mod Claims
pub mod Examples
