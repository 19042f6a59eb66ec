-- What the contracts of `lines` cite: the lines of an input, one turn of the cutting, and the whole input.
pub mod Lines
