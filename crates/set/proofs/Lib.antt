pub mod Lists
pub mod Asked
pub mod Planned
pub mod Demand
