pub mod Plans
pub mod Demand
