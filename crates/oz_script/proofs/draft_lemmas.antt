pub mod Counting
pub mod DraftSteps
pub mod Opened
pub mod Places
