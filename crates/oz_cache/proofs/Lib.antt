pub mod RowOrder
pub mod Batches
pub mod Newest
pub mod Next
pub mod Counting
pub mod Ahead
pub mod Links
