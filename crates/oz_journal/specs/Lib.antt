pub mod Appends
pub mod Body
pub mod Grammar
pub mod Journal
pub mod Load
pub mod inner
pub mod batches
