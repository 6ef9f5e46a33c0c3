pub mod Lacks
pub mod Read
pub mod Member
pub mod laws
