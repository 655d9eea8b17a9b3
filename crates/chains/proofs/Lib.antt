pub mod Found
pub mod Unfinished
pub mod Fitting
pub mod States
pub mod Slices
pub mod Listed
pub mod Indexing
