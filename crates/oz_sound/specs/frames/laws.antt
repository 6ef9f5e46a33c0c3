-- Laws with their proofs, which proofs cite, those of other crates too. A reader has nothing to believe here.
pub mod Moving
pub mod Parting
pub mod Committing
pub mod Deleting
pub mod Granting
pub mod Becoming
pub mod Bare
pub mod Apart
