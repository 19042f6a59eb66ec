-- The definitions of what a line of the log asks and answers, and the laws for the code.
pub mod Answer
pub mod Steps
