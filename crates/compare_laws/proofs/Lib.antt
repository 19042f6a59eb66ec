pub mod Mirror
pub mod Lines
