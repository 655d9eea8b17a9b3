pub mod Shorter
pub mod Model
