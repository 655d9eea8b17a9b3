pub mod Questions
pub mod Answer
pub mod Refusals
pub mod Order
pub mod Answers
pub mod Model
