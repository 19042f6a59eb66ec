-- The definitions of the line `03` of the log, and the laws for its code.
pub mod Call
pub mod Steps
