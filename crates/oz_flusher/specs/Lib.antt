pub mod Steps
pub mod Taken
pub mod Quiet
pub mod Flushes
pub mod Stops
pub mod flushing
