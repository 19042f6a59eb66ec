-- The definitions and laws of ageing.
pub mod Age
pub mod AgeLaws
pub mod MasterView
pub mod PortView
pub mod StoreView
