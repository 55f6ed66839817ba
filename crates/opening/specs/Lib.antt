-- What Open's parts promise in terms of its definition. Assumes nothing.
pub mod Opening
