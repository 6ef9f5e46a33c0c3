-- Laws with their proofs, which proofs cite, those of other crates too. A reader has nothing to believe here.
pub mod Batches
pub mod Bodies
pub mod Changes
pub mod FieldReads
pub mod Following
pub mod Grammar
pub mod Halving
pub mod Lengths
pub mod Lookups
pub mod OperationReads
pub mod Order
pub mod RangeCounts
pub mod Rising
pub mod RowReads
pub mod Same
pub mod Sizes
pub mod Splits
