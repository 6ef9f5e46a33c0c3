pub mod Coming
pub mod Bodies
pub mod History
pub mod Opened
pub mod Rows
pub mod Namespaces
