-- What the proofs of reading sets share, on plain values, one law for each way out of a turn.
--     RowTurn, RowsTurn, SetTurn, SetsTurn    of `read_row`, `read_rows`, `read_set` and `read_sets`
-- Assumes nothing.
pub mod RowTurn
pub mod RowsTurn
pub mod SetTurn
pub mod SetsTurn
