pub mod Single
pub mod Grants
pub mod Lines
pub mod Came
pub mod Requests
pub mod laws
