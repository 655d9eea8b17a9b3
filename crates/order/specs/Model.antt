pub mod Accepted
pub mod Fields
pub mod Lengths
