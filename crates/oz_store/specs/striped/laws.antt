-- Laws with their proofs, which proofs cite, those of other crates too. A reader has nothing to believe here.
pub mod Shares
pub mod Requests
pub mod Rows
pub mod Stories
pub mod Indexes
pub mod Asked
