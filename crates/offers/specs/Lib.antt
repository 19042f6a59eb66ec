-- The definitions and laws of what the masters of a port offer.
pub mod Offers
