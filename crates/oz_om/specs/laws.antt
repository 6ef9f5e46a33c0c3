-- Laws with their proofs, which proofs cite, those of other crates too. A reader has nothing to believe here.
pub mod Runs
