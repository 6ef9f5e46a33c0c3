pub mod Body
pub mod Waiting
