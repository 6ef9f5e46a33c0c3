pub mod StandsFor
pub mod Sound
pub mod Kept
pub mod laws
pub mod frames
pub mod stripes
pub mod example
