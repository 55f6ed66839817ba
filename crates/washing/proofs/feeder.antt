-- What the proofs on a call share, on plain values, one law for each way out.
--     Turn        of the loop of `take_all_timed`
--     Outcomes    of `timed_feed`
-- Assumes nothing.
pub mod Turn
pub mod Outcomes
