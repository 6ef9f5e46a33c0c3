pub mod Store
pub mod laws
pub mod striped
pub mod granted
