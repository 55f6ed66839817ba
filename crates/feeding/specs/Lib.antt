-- What Feed's parts promise in terms of its definition. Assumes nothing.
pub mod Feeding
pub mod Alone
