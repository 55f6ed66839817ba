-- What the proofs on the entrance share, on plain values, one law for each way out.
--     Agreeing      of `agrees_at` and `agrees`
--     Scheduling    of `schedule`, `enter_wash` and `enter_timed`
-- Assumes nothing.
pub mod Agreeing
pub mod Scheduling
