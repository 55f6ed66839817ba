-- What a run over the sets that a call has met promises, and when it may learn. Assumes nothing.
pub mod Turns
pub mod Learning
