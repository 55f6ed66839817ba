-- Slots in reading order: slots in their order and what an area of them comes to; a slot's place and how an area holds
-- it; several, one after the other. Assumes nothing.
pub mod Canon
pub mod Insertion
pub mod Holding
