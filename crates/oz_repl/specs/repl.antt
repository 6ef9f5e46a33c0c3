pub mod View
pub mod Listed
