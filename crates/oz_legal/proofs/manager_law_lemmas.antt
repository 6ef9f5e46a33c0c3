pub mod Alone
pub mod Asked
pub mod Changes
pub mod Found
pub mod Goes
pub mod Granted
pub mod Halted
pub mod Same
