pub mod Seats
pub mod granting
pub mod writing
pub mod reading
