-- The definitions and laws of writing TLVs.
pub mod Builder
