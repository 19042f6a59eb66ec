-- The definitions and laws of the decision for all ports.
pub mod Ports
pub mod Slave
