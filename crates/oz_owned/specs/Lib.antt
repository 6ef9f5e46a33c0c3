pub mod Own
pub mod Front
pub mod Stood
pub mod Left
pub mod Ordered
pub mod Swept
pub mod laws
