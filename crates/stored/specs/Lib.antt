-- The definitions and laws of histories of the real calls.
pub mod Calls
