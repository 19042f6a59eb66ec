-- The words of what the calls answer.
pub mod Answers
