pub mod Effects
pub mod Build
pub mod Batches
pub mod Parts
pub mod laws
pub mod changes
