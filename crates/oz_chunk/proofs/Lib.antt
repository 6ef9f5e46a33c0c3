pub mod Holding
pub mod Lowest
pub mod Moving
