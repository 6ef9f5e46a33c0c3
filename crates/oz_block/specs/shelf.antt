pub mod Answers
pub mod Release
pub mod Shelf
pub mod Steps
pub mod Written
pub mod laws
