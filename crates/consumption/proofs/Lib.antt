pub mod Words
pub mod View
