-- What the functions promise that judge an input as it arrives, and say its lines. Assumes nothing.
pub mod Course
