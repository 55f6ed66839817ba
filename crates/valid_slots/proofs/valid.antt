-- What the proofs on valid slots share, on plain values, one law for each way out of a turn.
--     Digits                           of `digit_fits` and `memory_fits`, and `digit` of node_word
--     Order, ZeroTurn, WalkTurn        of `below`, `all_zero` and `walk`
-- Assumes nothing.
pub mod Digits
pub mod Order
pub mod ZeroTurn
pub mod WalkTurn
