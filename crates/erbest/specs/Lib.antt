-- The definitions and laws of the choice of a port's Erbest.
pub mod Place
