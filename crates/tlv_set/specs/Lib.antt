-- The definition and laws of the view.
pub mod View
