pub mod Parts
pub mod Stripes
pub mod laws
