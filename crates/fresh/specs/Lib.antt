-- The definitions and laws of a fresh start.
pub mod Fresh
pub mod Words
pub mod View
