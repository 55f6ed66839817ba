-- What taking an event promises in terms of Feed's definition, and a run over events. Assumes nothing.
pub mod Taking
pub mod Runs
