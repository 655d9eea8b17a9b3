pub mod Poly
pub mod Word
pub mod Model
