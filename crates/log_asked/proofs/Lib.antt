pub mod AskedKinds
pub mod Steps
