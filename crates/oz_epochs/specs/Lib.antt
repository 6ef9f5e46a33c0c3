pub mod Epochs
pub mod Block
pub mod RawBlock
pub mod Links
pub mod Nodes
