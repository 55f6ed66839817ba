-- The results of one residual and an event, where bits for its nodes say them, held. Assumes nothing.
pub mod Moving
