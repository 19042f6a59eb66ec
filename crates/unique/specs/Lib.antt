-- The calls that the outside uses have one answer.
pub mod Once
pub mod Codec
pub mod Choice
pub mod Store
pub mod Linked
pub mod Log
