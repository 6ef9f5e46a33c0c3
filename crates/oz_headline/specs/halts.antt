pub mod Disks
pub mod Nodes
pub mod Rising
