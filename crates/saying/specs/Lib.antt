-- What a line that was said is, and what `say` promises. Assumes nothing.
pub mod Spoken
