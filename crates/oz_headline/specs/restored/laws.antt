-- Laws with their proofs, which proofs cite, those of other crates too. A reader has nothing to believe here.
pub mod Sound
pub mod Stand
pub mod Apart
pub mod Longer
pub mod Union
pub mod Whole
pub mod Leads
pub mod Bodies
pub mod Images
pub mod Stable
