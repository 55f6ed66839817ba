-- One residual and one event without a store, in reading order: the members of a leaf's results, and of a residual's;
-- whether it is taken; its way; the way as a word. Assumes nothing.
pub mod Covering
pub mod Members
pub mod Takes
pub mod Only
pub mod Code
