-- The laws of `specs/Timetable.antt`, a file each. Assumes nothing.
pub mod Exact
pub mod Laws
pub mod Pairs
