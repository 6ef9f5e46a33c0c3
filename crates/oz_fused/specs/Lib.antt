pub mod FusedDisk
pub mod laws
