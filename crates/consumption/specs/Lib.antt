-- The definitions and laws of consumption.
pub mod Consume
