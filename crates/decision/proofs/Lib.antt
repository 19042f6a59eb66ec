pub mod Answer
pub mod Steps
pub mod Lines
pub mod Reasons
