-- What the program's function promises; the line that was said last. Then what is claimed. Assumes nothing.
pub mod FrontTold
pub mod LastSaid
pub mod Claims
