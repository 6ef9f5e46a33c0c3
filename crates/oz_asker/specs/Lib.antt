pub mod Asked
pub mod Decided
pub mod Settled
pub mod laws
pub mod telling
