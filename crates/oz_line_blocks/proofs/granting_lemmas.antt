pub mod Still
pub mod Waiting
pub mod Spent
pub mod Refused
