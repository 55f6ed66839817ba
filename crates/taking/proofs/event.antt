-- What the proofs on one event share, on plain values, one law for each way out.
--     Sets     of `next_set`
--     Areas    of `advance`
--     Parity   of `advance_present`
--     Tests    of `take_event`
-- Assumes nothing.
pub mod Sets
pub mod Areas
pub mod Parity
pub mod Tests
