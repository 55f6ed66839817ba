-- Wash hours, in reading order: the record and the answers, one event, what stands before the events, a call; the
-- joined list and lists of calls; each refusal by its condition, and what a call does with its events; what is
-- claimed. Last, what only the laws and proofs use. Worked calls stand in crate `monitor_examples`. Assumes nothing.
pub mod Timed
pub mod Taking
pub mod Entering
pub mod Feed
pub mod Joined
pub mod History
pub mod Refusals
pub mod Progress
pub mod Claims
pub mod Expected
