pub mod Deciders
pub mod Decided
pub mod Premises
pub mod Records
pub mod Sizes
pub mod Promises
pub mod Outcomes
