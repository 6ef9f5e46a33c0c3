pub mod Chunks
pub mod Giving
pub mod Listed
pub mod Members
pub mod Opening
pub mod Putting
pub mod Staying
pub mod Telling
