-- The definitions and laws of the kinds of TLVs.
pub mod Kind
