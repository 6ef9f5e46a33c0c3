pub mod Changes
pub mod Noting
pub mod Numbers
pub mod Passing
pub mod Records
pub mod Keys
