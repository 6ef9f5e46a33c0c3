pub mod Meets
pub mod Drafts
pub mod Replies
pub mod Walking
pub mod Sessions
pub mod Versions
pub mod laws
