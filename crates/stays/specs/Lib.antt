-- The definitions and laws of two masters compared.
pub mod Words
pub mod Compared
