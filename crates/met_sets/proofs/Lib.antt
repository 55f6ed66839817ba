-- What the proofs share: `Turn`, one event along a transition that is known. Assumes nothing.
pub mod Turn
