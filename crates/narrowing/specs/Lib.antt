pub mod Narrowed
pub mod LeftAfter
pub mod Model
