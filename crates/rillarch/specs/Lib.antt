-- What the calls for a program in C or Rust answer, beyond the calls underneath.
pub mod Calls
