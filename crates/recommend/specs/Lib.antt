-- The definitions and laws of a state by its number.
pub mod Number
