pub mod Decision
pub mod Totals
pub mod Conserved
pub mod Independence
pub mod Moments
pub mod Plain
pub mod Turns
pub mod Balance
