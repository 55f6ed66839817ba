-- The claims of this crate, proved. Assumes nothing.
pub mod Theorems
pub mod Timetable
pub mod Windows
