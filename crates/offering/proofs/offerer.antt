-- What the proofs of Offer share, on plain values, one law for each way out.
--     BitTurn, BitsTurn     of `bit` and `bits`
--     WordCases             of `word` and `words`
--     Cases                 of `offered`
--     Outcomes              of `offer`
-- Assumes nothing.
pub mod BitTurn
pub mod BitsTurn
pub mod WordCases
pub mod Cases
pub mod Outcomes
