pub mod Counted
pub mod Loads
pub mod Parts
pub mod Unseated
pub mod Walks
pub mod standing
