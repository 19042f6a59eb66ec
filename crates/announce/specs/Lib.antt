-- The definitions and laws of the announce message.
pub mod Wire
pub mod Example
