pub mod Together
pub mod Opens
pub mod laws
