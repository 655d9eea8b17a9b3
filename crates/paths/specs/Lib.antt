pub mod Paths
pub mod Part
pub mod Chains
pub mod Model
