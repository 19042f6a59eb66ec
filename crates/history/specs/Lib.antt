-- The definitions and laws of the book as lists.
pub mod Rules
pub mod Port
pub mod Book
pub mod Sound
