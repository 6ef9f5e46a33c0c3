-- Laws with their proofs, which proofs cite, those of other crates too. A reader has nothing to believe here.
pub mod Reach
pub mod Moving
pub mod Making
pub mod Renames
pub mod Held
pub mod Origins
pub mod Homes
