-- The residual sets that a call has met, as a lazy automaton: which sets are kept, and which follows which after an
-- event; runs along what is known. Assumes nothing.
pub mod Sets
pub mod Value
pub mod Runs
