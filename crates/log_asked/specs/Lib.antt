-- The definitions of the log program's lines, and the laws for its code.
pub mod Line
