pub mod Editing
pub mod Freeing
pub mod Making
pub mod Placing
pub mod Releasing
pub mod Resting
pub mod Rising
pub mod Writing
