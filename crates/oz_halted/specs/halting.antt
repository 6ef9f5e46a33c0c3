pub mod Story
pub mod Leaves
pub mod Example
pub mod laws
