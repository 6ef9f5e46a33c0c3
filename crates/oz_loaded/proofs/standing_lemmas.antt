pub mod Filling
pub mod Gathered
pub mod OneBucket
pub mod Results
pub mod Shown
pub mod Stands
pub mod Striped
pub mod Walking
