pub mod Accepts
pub mod Outcomes
