-- Laws with their proofs, which proofs cite, those of other crates too. A reader has nothing to believe here.
pub mod Codes
pub mod Grants
pub mod Order
pub mod Reaches
pub mod Scopes
pub mod Service
pub mod Stripes
pub mod Members
pub mod Reached
