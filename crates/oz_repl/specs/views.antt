pub mod View
pub mod Away
pub mod Lines
pub mod Still
pub mod laws
