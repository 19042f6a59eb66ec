pub mod Views
pub mod Stretch
pub mod Alone
pub mod Decisions
pub mod Laws
