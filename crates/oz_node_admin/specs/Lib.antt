pub mod Seats
pub mod Commands
pub mod Wipes
pub mod Came
pub mod Halts
pub mod laws
