pub mod Behind
pub mod Causes
pub mod Seated
pub mod Standing
