-- The definitions and laws of the calls that change a book's lists.
pub mod Calls
pub mod Steps
