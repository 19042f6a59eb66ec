-- The definitions and laws of the state decision.
pub mod State
pub mod Answer
