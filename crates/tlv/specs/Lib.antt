-- The definitions and laws of reading TLVs.
pub mod Tlv
