-- What the contracts of `hex_line` cite: the digits, and the laws about them.
pub mod Hex
