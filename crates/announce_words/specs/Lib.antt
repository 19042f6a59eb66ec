-- The words of an announce, and that they tell all of it.
pub mod Words
pub mod Laws
