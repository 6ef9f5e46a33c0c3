pub mod Logged
pub mod Log
pub mod Codes
pub mod Index
