-- The equality of whole messages, as a test and as what it says.
pub mod Test
pub mod Same
