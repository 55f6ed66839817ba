-- Numbers in decimal, in reading order: their digits; what is claimed of them. Assumes nothing.
pub mod Decimal
pub mod Claims
