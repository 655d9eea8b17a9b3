pub mod Puts
pub mod OneTurn
pub mod AllTurns
pub mod Joining
