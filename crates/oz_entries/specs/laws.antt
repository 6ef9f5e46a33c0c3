-- Laws with their proofs, which proofs cite, those of other crates too. A reader has nothing to believe here.
pub mod Blocks
pub mod Drops
pub mod Journals
pub mod Nodes
pub mod Reads
pub mod Sound
