pub mod Place
pub mod Chosen
