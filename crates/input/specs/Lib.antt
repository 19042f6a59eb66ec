-- What the contracts of `input` cite.
pub mod Within
