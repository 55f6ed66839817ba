-- What the proofs on consistency share, on plain values, one law for each way out.
--     SlotsTurn    of `slots_fit` and `slots_ascend`
--     Cases        of `verdict_fits`, `record_fits`, `area_fits`, `areas_fit` and `consistent`
-- Assumes nothing.
pub mod SlotsTurn
pub mod Cases
