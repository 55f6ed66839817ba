-- A timetable of wash hours, in reading order: the definitions; a timetable by conditions alone; what is proved of
-- these; worked timetables. Assumes nothing.
pub mod Timetable
pub mod Windows
pub mod Claims
pub mod Examples
