-- What the index says of references: `Words`, `Heads` and `Nodes`. Assumes nothing.
pub mod Words
pub mod Heads
pub mod Nodes
