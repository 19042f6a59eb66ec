-- The laws of refusals and of results by their numbers.
pub mod Laws
