-- Worked inputs that are long, in reading order; what is claimed of them. Assumes nothing.
pub mod LongTables
pub mod Buffers
pub mod Claims
