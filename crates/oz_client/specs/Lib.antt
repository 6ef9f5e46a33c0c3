pub mod LineState
pub mod Replies
pub mod Onward
pub mod Stories
pub mod inner
pub mod laws
