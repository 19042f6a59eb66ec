-- The definition of the line `00` of the log, and the laws for its code.
pub mod Start
pub mod Steps
