-- What reading the table of an input promises. Assumes nothing.
pub mod TableRead
