pub mod Joining
pub mod Part
