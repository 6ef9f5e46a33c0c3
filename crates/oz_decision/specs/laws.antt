-- Laws with their proofs, which proofs cite, those of other crates too. A reader has nothing to believe here.
pub mod Lookups
pub mod Rising
pub mod Between
pub mod Counting
pub mod Walks
pub mod Snapshots
pub mod OneRow
pub mod Refusing
pub mod SessionRows
pub mod Sessions
pub mod Shown
pub mod Versions
