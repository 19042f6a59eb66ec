-- The definitions and laws of message types.
pub mod Types
