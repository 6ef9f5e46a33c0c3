-- For private calls: no public contract rests on these.
pub mod Commanded
pub mod Put
pub mod Read
pub mod Replied
pub mod Short
pub mod Taken
