-- The walk over a slot's node words, in terms of the monitor's specification (crate monitor_spec). Assumes nothing.
pub mod Walk
