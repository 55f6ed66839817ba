-- How many bytes more the front of an input needs, and what holds of a front that got no more; what is read. Assumes
-- nothing.
pub mod Wanted
pub mod Front
