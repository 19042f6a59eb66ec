-- The definitions of the comparison, and its cases.
pub mod Dataset
