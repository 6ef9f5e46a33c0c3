pub mod Circles
pub mod Marks
pub mod Waiting
