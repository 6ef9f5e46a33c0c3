pub mod History
pub mod Reading
pub mod Moments
pub mod Counting
pub mod Puts
pub mod Deletes
pub mod Story
pub mod halts_lemmas
