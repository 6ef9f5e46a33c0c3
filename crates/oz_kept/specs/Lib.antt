pub mod Purges
pub mod Held
pub mod laws
pub mod reopened
