-- Words at fixed places, and what a call with a lent answer leaves there.
pub mod Words
pub mod Laws
