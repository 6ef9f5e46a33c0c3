-- Laws with their proofs, which proofs cite, those of other crates too. A reader has nothing to believe here.
pub mod Places
pub mod Reached
pub mod Kept
pub mod Deleted
pub mod Granted
pub mod Contents
pub mod Lines
