pub mod Search
pub mod Tests
pub mod Alike
pub mod Orders
pub mod Once
