-- Laws with their proofs, which proofs cite, those of other crates too. A reader has nothing to believe here.
pub mod Looked
pub mod Drained
pub mod Granted
pub mod Since
pub mod Dated
pub mod Watched
pub mod Emptied
pub mod Still
pub mod Viewed
