-- The program's line, in reading order: of a whole input; of an input in pieces; what the functions of crate `line`
-- give with every lent word, of the front, of a piece and of a whole input; the calls on an input, and the line to
-- expect of them; what may be said of an input that is read a buffer at a time; what is claimed, with the worked
-- examples. Assumes nothing.
pub mod Line
pub mod Pieces
pub mod Opening
pub mod Whole
pub mod Lent
pub mod Judged
pub mod Claims
