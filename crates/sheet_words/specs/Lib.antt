-- What the lot sheet's function for C promises, in reading order: the call; what is claimed. Assumes nothing.
pub mod Call
pub mod Claims
