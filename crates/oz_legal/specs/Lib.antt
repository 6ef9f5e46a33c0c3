pub mod Faults
pub mod Parts
pub mod manager_law
