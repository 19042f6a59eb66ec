-- The equality that Rust derives, as a test by the fields in their order.
pub mod Derived
