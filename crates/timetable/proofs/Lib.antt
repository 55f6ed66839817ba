-- The laws of two of this crate's loops: those of `wash_at` and `window_begins`. Assumes nothing.
mod Places
