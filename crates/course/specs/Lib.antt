-- The front of an input: what holds where a monitor was opened on it, and where it was refused. Assumes nothing.
pub mod Fronts
