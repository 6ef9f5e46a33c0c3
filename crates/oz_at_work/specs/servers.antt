pub mod Begun
pub mod Served
