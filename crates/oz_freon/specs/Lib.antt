pub mod Drawing
pub mod Script
