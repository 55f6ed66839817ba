-- The lot sheet, in reading order: a line, the sheet; a line by its columns alone, and what making a sheet comes to by
-- conditions alone; what is proved of these. Assumes nothing.
pub mod Line
pub mod Sheet
pub mod Columns
pub mod Outcomes
pub mod Claims
