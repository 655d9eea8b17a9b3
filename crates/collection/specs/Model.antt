pub mod Backward
pub mod Gathered
