-- The definitions and laws of the decision over the store.
pub mod Decide
pub mod Plan
