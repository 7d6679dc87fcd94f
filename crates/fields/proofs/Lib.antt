pub mod Pieces
pub mod Rounds
