pub mod View
pub mod Nth
pub mod Steps
pub mod Laid
pub mod Once
