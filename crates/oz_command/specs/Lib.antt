pub mod Commands
pub mod Numbers
pub mod Paths
pub mod Payload
pub mod Words
pub mod command_line
