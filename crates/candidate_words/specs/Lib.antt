-- The words of a candidate and of a list of them.
pub mod Words
