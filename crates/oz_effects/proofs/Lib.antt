pub mod First
pub mod Fitting
pub mod Gathering
pub mod PartOrder
