pub mod Pieces
pub mod PaddedWords
