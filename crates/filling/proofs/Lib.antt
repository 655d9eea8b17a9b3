pub mod Ordered
pub mod Settled
pub mod Weights
pub mod Filled
pub mod Standing
