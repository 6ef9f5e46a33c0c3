pub mod Opens
pub mod Records
pub mod Allowed
