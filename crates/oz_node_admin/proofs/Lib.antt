pub mod Emptying
pub mod Told
pub mod Changed
pub mod Came
pub mod Down
