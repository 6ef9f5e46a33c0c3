pub mod Holding
pub mod Managing
pub mod Reopening
pub mod Deleting
pub mod Missing
pub mod Shown
pub mod leaving_lemmas
pub mod Entries
