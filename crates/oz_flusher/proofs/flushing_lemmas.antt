pub mod Own
pub mod Telling
pub mod Longer
pub mod Last
pub mod Kept
