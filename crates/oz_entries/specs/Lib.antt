pub mod Build
pub mod Entries
pub mod Held
pub mod Node
pub mod Reading
pub mod Steps
pub mod laws
