pub mod Changing
pub mod CreatingVolumes
pub mod DeletingVolumes
pub mod CreatingBuckets
pub mod DeletingBuckets
pub mod Meeting
