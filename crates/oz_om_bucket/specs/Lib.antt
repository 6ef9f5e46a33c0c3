pub mod Allowed
pub mod Records
