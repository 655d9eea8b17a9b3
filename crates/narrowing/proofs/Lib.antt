pub mod Narrowed
pub mod OneLength
pub mod Rank
pub mod Ranked
mod Written
mod Largest
