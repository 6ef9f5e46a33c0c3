pub mod Blocks
pub mod Changes
pub mod Frames
pub mod Lists
pub mod shelf
