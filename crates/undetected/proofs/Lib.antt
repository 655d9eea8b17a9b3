pub mod Undetected
pub mod FirstUndetected
pub mod Counting
pub mod Counted
pub mod Counts
mod Looking
