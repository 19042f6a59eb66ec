pub mod Tests
pub mod Parts
pub mod Messages
pub mod Kept
pub mod Aged
pub mod Lines
pub mod Found
