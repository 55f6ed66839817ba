-- What a read leaves of a buffer that is being filled, and what a filled buffer holds; what one read brings. Assumes
-- nothing.
pub mod Reading
pub mod Arrival
