pub mod Shares
pub mod laws
