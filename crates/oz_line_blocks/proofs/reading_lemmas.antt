pub mod Outcomes
pub mod Told
pub mod Three
pub mod Standing
pub mod Doubts
pub mod Lacking
pub mod Known
