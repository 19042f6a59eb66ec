pub mod Steps
pub mod Slave
