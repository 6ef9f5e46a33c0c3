-- Laws with their proofs, which proofs cite, those of other crates too. A reader has nothing to believe here.
pub mod Named
pub mod Found
pub mod Homes
pub mod Owned
pub mod Staying
pub mod Front
pub mod Longer
pub mod Written
pub mod Tables
pub mod Based
pub mod Left
pub mod Swept
pub mod Numbered
pub mod Purged
pub mod Gone
pub mod Standing
