-- The lines that are marked (P).
pub mod TlvLines
