-- Laws of frames that are read and written.
pub mod Accepted
pub mod Example
