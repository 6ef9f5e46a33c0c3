-- Laws with their proofs, which proofs cite, those of other crates too. A reader has nothing to believe here.
pub mod Held
pub mod Named
pub mod Greatest
pub mod Same
pub mod One
pub mod Lengths
pub mod Containers
pub mod Logs
pub mod Digests
pub mod Empty
pub mod Stores
