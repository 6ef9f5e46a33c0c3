-- Laws with their proofs, which proofs cite, those of other crates too. A reader has nothing to believe here.
pub mod Rising
pub mod Named
pub mod Logged
pub mod Placed
pub mod Given
pub mod Pieces
pub mod Committed
pub mod Whole
pub mod Reopened
pub mod Start
