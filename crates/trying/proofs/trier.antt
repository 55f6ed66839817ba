-- What the proof on `try_feed` needs, on plain values: `Outcomes`, one law for each way out. Assumes nothing.
pub mod Outcomes
