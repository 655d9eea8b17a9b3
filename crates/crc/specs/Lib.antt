pub mod Check
pub mod Answers
