pub mod Over
pub mod Words
pub mod View
pub mod Planned
pub mod Laws
