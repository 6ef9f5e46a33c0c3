pub mod Finding
pub mod Parsing
pub mod Waiting
pub mod laws
pub mod lines
pub mod draft
pub mod placed
pub mod circles
