pub mod Answers
pub mod FirstNo
pub mod Refusals
pub mod Asked
pub mod SharedFactor
pub mod Records
pub mod Lengths
