pub mod Steps
pub mod Chosen
