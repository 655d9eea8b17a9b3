pub mod Undetected
pub mod FirstUndetected
pub mod Model
