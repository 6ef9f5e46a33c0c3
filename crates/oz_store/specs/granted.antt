pub mod Empty
pub mod Granted
pub mod laws
