pub mod SharedFactor
pub mod Model
