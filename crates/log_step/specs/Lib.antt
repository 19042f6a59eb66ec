-- The definitions of the log program's input in pieces, and the laws for its code.
pub mod Piece
