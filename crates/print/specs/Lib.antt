pub mod Printed
pub mod Model
