pub mod Commits
pub mod Picks
pub mod Records
pub mod Sessions
pub mod om_open
