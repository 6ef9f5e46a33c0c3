pub mod Snapshots
pub mod Listed
pub mod Replies
pub mod Meeting
pub mod om_change_lemmas
