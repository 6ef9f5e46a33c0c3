pub mod OmSeats
pub mod OmEmpty
