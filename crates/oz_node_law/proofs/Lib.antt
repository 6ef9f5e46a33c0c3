pub mod Answered
pub mod Applied
pub mod Found
pub mod Gave
pub mod Firsts
pub mod Once
pub mod Slots
