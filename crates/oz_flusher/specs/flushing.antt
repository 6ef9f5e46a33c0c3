pub mod Kept
pub mod Flush
pub mod Halts
