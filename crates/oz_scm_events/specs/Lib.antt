pub mod Kept
pub mod Granted
pub mod Tracked
pub mod Stepped
pub mod Noted
pub mod Logged
pub mod Left
pub mod Telling
