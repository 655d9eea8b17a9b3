pub mod Events
pub mod Model
