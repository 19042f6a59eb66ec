-- The numbers of refusals, and a result by its number.
pub mod Refusal
