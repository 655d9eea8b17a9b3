pub mod Quoted
pub mod Fresh
