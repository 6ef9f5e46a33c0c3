pub mod Passing
pub mod Spreading
pub mod Ways
