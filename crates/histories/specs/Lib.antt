-- The definitions and laws of histories.
pub mod History
pub mod Ledger
pub mod Balance
