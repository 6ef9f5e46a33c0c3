pub mod Placed
pub mod Served
