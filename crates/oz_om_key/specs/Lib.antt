pub mod Requests
pub mod Places
pub mod Walking
pub mod om_change
