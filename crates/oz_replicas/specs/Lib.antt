pub mod Cells
pub mod Nodes
pub mod Notes
pub mod Outcomes
pub mod Reading
pub mod Stays
pub mod Writing
