-- What the proofs on one event with its minute share, on plain values, one law for each way out.
--     Standing   what stands before and after an event
--     On         of `take_on`
--     Timed      of `take_timed`
-- Assumes nothing.
pub mod Standing
pub mod On
pub mod Timed
