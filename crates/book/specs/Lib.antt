-- The definitions and laws of a sound book, and those of the store.
pub use Rattle.store.specs.Below
pub use Rattle.store.specs.Layout
pub use Rattle.store.specs.Each
pub mod Rules
