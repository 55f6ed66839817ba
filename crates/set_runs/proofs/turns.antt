-- What the proofs on runs over the sets met share. Assumes nothing.
pub mod Laws
