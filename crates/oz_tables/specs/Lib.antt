pub mod Tables
pub mod built
