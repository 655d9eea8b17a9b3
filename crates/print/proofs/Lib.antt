pub mod Read
pub mod Shown
pub mod Samples
