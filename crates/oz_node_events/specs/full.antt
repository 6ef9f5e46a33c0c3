pub mod Full
pub mod laws
