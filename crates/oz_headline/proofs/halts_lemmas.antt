pub mod Halts
pub mod Counting
pub mod Keeping
pub mod Bad
