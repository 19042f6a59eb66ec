-- Laws of the comparison.
pub mod Mirror
pub mod Lines
