-- The log program on lists, the calls on a store that give the same, whatever pieces the input arrives in, and the paper's whole case.
pub mod Log
pub mod Case
