pub mod Ones
pub mod Divided
pub mod Rows
pub mod Even
