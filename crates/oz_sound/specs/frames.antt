pub mod Moves
pub mod Parts
pub mod Sessions
pub mod Buckets
pub mod Apart
pub mod laws
