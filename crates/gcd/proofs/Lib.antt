pub mod Samples
pub mod Degree
pub mod Euclid
pub mod Ideal
pub mod SharedFactor
pub mod Aligned
pub mod NoZero
