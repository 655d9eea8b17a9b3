pub mod Puts
pub mod Numerals
pub mod Pieces
pub mod Sizes
pub mod Samples
