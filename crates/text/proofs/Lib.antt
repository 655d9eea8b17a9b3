pub mod Calls
pub mod Samples
