pub mod Counts
pub mod Jobs
pub mod Left
pub mod Placed
pub mod Whole
mod disk_run_lemmas
pub mod Freed
