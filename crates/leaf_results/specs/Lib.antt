-- The results of a residual's leaves, prepared in a store. Assumes nothing.
pub mod Prepared
