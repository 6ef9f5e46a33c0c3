-- Laws with their proofs, which proofs cite, those of other crates too. A reader has nothing to believe here.
pub mod Numbers
pub mod Acknowledged
pub mod Logged
pub mod Untold
pub mod Still
pub mod Shown
pub mod Copying
pub mod Later
pub mod Commanded
