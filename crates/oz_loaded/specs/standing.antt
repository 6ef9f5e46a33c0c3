pub mod Made
pub mod Shown
pub mod Standing
