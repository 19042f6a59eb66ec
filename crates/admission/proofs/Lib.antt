pub mod MasterView
pub mod PortView
pub mod StoreView
