-- Demand 3 of the choice.
pub mod Agreement
pub mod Differ
