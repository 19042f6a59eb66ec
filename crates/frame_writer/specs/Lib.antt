-- The definitions and laws of frames that are written.
pub mod Frame
pub mod Laws
