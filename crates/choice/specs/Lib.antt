-- The definitions of the choice, and its laws over any test.
pub mod Choice
pub mod Candidate
