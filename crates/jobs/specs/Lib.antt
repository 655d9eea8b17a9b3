pub mod Jobs
pub mod Lent
pub mod Model
