pub mod Cache
pub mod Linked
pub mod Places
pub mod Waiting
