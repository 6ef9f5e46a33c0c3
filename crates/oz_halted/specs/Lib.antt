pub mod Further
pub mod Missing
pub mod Example
pub mod halting
pub mod laws
