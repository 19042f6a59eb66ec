-- The definitions and laws of a message in the store, and of blocks of words.
pub mod Blocks
pub mod Slot
