-- What the proofs on the clock share, on plain values, one law for each way out: `Tests`. Assumes nothing.
pub mod Tests
