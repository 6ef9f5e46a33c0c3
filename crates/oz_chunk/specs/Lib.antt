pub mod Disk
pub mod Slots
pub mod Taken
pub mod laws
