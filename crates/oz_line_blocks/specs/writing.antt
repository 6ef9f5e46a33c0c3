pub mod Unknown
pub mod Written
