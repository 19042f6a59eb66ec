-- The definitions and laws of the order.
pub mod Order
pub mod Rows
