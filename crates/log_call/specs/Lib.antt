-- The definitions of the lines `01` and `02` of the log, and the laws for their code.
pub mod Call
pub mod Steps
