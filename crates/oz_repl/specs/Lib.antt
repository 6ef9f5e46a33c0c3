pub mod repl
pub mod views
pub mod written
