-- The definitions and laws of taking a message into the book.
pub mod Admit
