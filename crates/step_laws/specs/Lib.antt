-- Proper residuals (crate monitor_spec) and the step: they are what it takes for trees; an area of their slots is what
-- it asks for; what it leaves are the slots of the residuals after the event, of a definition, whether an event is
-- taken; and areas that hold the slots of residuals (`Holds` of monitor_spec). Assumes nothing.
pub mod Trees
pub mod Areas
pub mod Room
pub mod Asks
pub mod Outcomes
pub mod HeldAreas
pub mod Filled
