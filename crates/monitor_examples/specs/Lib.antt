-- Worked calls, in reading order; what is claimed of them. Assumes nothing.
pub mod Cases
pub mod PeakCases
pub mod Buffers
pub mod TimedRows
pub mod Claims
