-- The laws of what a list of TLVs holds.
pub mod Entries
