pub mod Asked
pub mod Closes
pub mod Each
pub mod Greatest
pub mod Holds
pub mod Made
pub mod Ups
