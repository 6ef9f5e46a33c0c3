pub mod Applying
pub mod Codes
pub mod Frames
pub mod Granting
pub mod Logging
pub mod Noting
pub mod Scm
pub mod grants
