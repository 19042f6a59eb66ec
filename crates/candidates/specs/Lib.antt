-- The definitions and laws of the candidates of a book.
pub mod Candidates
pub mod View
