pub mod Added
pub mod Adds
pub mod Frames
pub mod Opens
pub mod Readings
pub mod Records
pub mod Scans
pub mod batches_lemmas
