-- Laws with their proofs, which proofs cite, those of other crates too. A reader has nothing to believe here.
pub mod Contents
pub mod Disks
pub mod Standing
pub mod Told
pub mod Lines
pub mod Wiped
