pub mod Managed
pub mod Absent
pub mod Held
pub mod Replicas
pub mod Leaving
