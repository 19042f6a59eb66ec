-- The definitions and laws of the store.
pub mod Below
pub mod Layout
pub mod Each
pub mod Search
