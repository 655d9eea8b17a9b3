pub mod Links
pub mod Weight
pub mod Trellis
pub mod Calls
pub mod Model
