pub mod Openings
pub mod Agreeing
pub mod Same
pub mod laws
