pub mod Inputs
pub mod Listed
pub mod OfState
pub mod Records
pub mod Shorter
