-- What the function of the wash hours for C promises, in reading order: the record in words; the call; what is claimed.
-- Assumes nothing.
pub mod Words
pub mod Call
pub mod Claims
