pub mod Causes
pub mod Drafts
pub mod Said
pub mod Tracked
pub mod laws
