-- The definitions of the refusals.
pub mod Refusal
