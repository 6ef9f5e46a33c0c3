-- Laws with their proofs, which proofs cite, those of other crates too. A reader has nothing to believe here.
pub mod Unchanged
pub mod OneLog
pub mod Making
pub mod Usual
pub mod Left
pub mod Going
pub mod Lost
pub mod Beside
