pub mod Untouched
pub mod Sounds
