-- What the proofs on a fresh start share, on plain values, one law for each way out.
--     Areas      of `start_in_other`, `start_in_first` and `take_fresh`
--     Settled    of `take_settled` and `take_first`
-- Assumes nothing.
pub mod Areas
pub mod Settled
