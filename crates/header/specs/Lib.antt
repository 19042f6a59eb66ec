-- The definitions and laws of the header.
pub mod Wire
